-- The first line where the differences disagree, and its lowest bit: what two runs come to.
use Prim.Native.Nat.{ℕ, ◌+◌, ◌^◌, ◌<◌}
use native.Mathlib.Nat.{mod-eq_of_lt}
use native.Mathlib.Omega.{arith}
use mathlib.Core.Path.{◌≡◌, refl, sym, ap, ap₂, ◌∙◌}
use mathlib.Core.Bool.{Bool, true, false, not, cond, xor, true≢false}
use mathlib.Core.List.{List}
use borrow.Author.Tests.{eq-eqb, ne_eqb}
use lib.Bits.{bit_xor, xor_lt}
use lib.Dec.{eqb}
use Rattle.words.specs.Words.{bit}
use Rattle.words.specs.Below.{any}
use Rattle.words.proofs.Below.{all_fails, all_yes_lem}
use Rattle.words.proofs.Bits.{word_ext, xor_self}
use Rattle.words.proofs.Unequal.{unequal_any}
use Rattle.trail.specs.Trail.{Trail, input_count, line_count, line_at}
use Rattle.trail.specs.WellFormed.{WellFormed}
use Rattle.trail.specs.Runs.{run_word, partner, is_start, line_follows, follows}
use Rattle.trail.proofs.Runs.{run_word_lem, partner_start}
use Rattle.sheet_runs.specs.Outcome.{result_difference, disagrees, first_line, lowest_bit, Outcome, outcome, FollowsExactly, FirstDisagreement, DisagreementIsFirst}
use Rattle.sheet_runs.specs.Outcome.Outcome.{followed, disagree}
use Rattle.sheet_runs.proofs.Least.{least_first, first_least, some_fails}

-- ---- any trail and any list of words

module _ (t : Trail) (x : List ℕ) where
  -- the outcome, by whether the start follows
  abbrev outcome_by : Bool → Outcome
  outcome_by b = cond b followed (disagree (first_line t x) (lowest_bit t x (first_line t x)))

  pub all_follow : ((k : ℕ) → k < line_count t → line_follows t x k ≡ true) → follows t x ≡ true
  unfolding follows
  all_follow h = all_yes_lem (line_count t) (line_follows t x) h

  pub outcome_follows : follows t x ≡ true → outcome t x ≡ followed
  unfolding outcome
  outcome_follows e = ap outcome_by e

  -- a line with a bit that disagrees does not follow
  disagree_line : (k i : ℕ) → disagrees t x k i ≡ true → line_follows t x k ≡ false
  unfolding disagrees line_follows result_difference
  disagree_line k i e =
      ne_eqb (bit_xor (run_word t x (input_count t + k)) (run_word t (partner t x) (input_count t + k))) (line_at t k).difference
      (λ same. true≢false (sym e ∙ ap (λ (d : ℕ). xor (bit d i) (bit (line_at t k).difference i)) same ∙ xor_self (bit (line_at t k).difference i)))

  -- the first disagreement is the outcome
  pub outcome_disagrees : (k i : ℕ) → FirstDisagreement t x k i → outcome t x ≡ disagree k i
  unfolding outcome follows first_line lowest_bit
  outcome_disagrees k i f =
      let fails = disagree_line k i f.disagrees_here in
      let line : first_line t x ≡ k = least_first (line_count t) (λ k. not (line_follows t x k)) k (record {
        below = f.line_below;
        here = ap not fails;
        earlier = λ l less. ap not (f.earlier_follow l less);
      }) in
      let lowest : lowest_bit t x k ≡ i = least_first t.width (disagrees t x k) i (record {
        below = f.bit_below;
        here = f.disagrees_here;
        earlier = f.lower_agree;
      }) in
      ap outcome_by (all_fails (line_count t) (line_follows t x) k f.line_below fails)
      ∙ ap (λ (l : ℕ). disagree l (lowest_bit t x l)) line
      ∙ ap (disagree k) lowest

pub follows_exactly : FollowsExactly
unfolding outcome
follows_exactly t x = (at (follows t x) refl, outcome_follows t x)
  where
    at : (b : Bool) → follows t x ≡ b → outcome_by t x b ≡ followed → follows t x ≡ true
    at true e same = e
    at false e same = let z : ◌≡◌ {A = ℕ} 0 1 = cc in absurd (omega arith)

-- ---- a well-formed trail and a start

module _ {t : Trail} (good : WellFormed t) (x : List ℕ) (start : is_start t x ≡ true) where
  difference_word : (k : ℕ) → k < line_count t → result_difference t x k < 2 ^ t.width
  unfolding result_difference
  difference_word k h =
      xor_lt t.width (run_word t x (input_count t + k)) (run_word t (partner t x) (input_count t + k))
      (run_word_lem good x start (input_count t + k) (omega arith))
      (run_word_lem good (partner t x) (partner_start good x start) (input_count t + k) (omega arith))

  -- a line that does not follow has a bit that disagrees
  some_bit : (k : ℕ) → k < line_count t → not (line_follows t x k) ≡ any t.width (disagrees t x k)
  unfolding line_follows disagrees result_difference
  some_bit k h =
      ap₂ (λ (d e : ℕ). not (eqb d e)) (sym (mod-eq_of_lt (difference_word k h))) (sym (mod-eq_of_lt (good.lines_right k h).difference_word))
      ∙ unequal_any t.width (result_difference t x k) (line_at t k).difference

  -- a line with no bit that disagrees follows
  pub line_follows_lem : (k : ℕ) → k < line_count t → ((i : ℕ) → i < t.width → disagrees t x k i ≡ false) → line_follows t x k ≡ true
  unfolding line_follows disagrees result_difference xor
  line_follows_lem k h none =
      eq-eqb (result_difference t x k) (line_at t k).difference
      (word_ext t.width (result_difference t x k) (line_at t k).difference (difference_word k h) (good.lines_right k h).difference_word
      (λ i l. same (bit (result_difference t x k) i) (bit (line_at t k).difference i) (none i l)))
    where
      same : (a b : Bool) → xor a b ≡ false → a ≡ b
      same false false e = refl
      same true true e = refl
      same false true e = absurd (true≢false e)
      same true false e = absurd (true≢false e)

  first_disagreement : follows t x ≡ false → FirstDisagreement t x (first_line t x) (lowest_bit t x (first_line t x))
  unfolding follows first_line lowest_bit
  first_disagreement e =
      let line = first_least (line_count t) (λ k. not (line_follows t x k)) (some_fails (line_count t) (line_follows t x) ∙ ap not e) in
      let lowest = first_least t.width (disagrees t x (first_line t x)) (sym (some_bit (first_line t x) line.below) ∙ line.here) in
      record {
        line_below = line.below;
        earlier_follow = λ l less. passes (line_follows t x l) (line.earlier l less);
        bit_below = lowest.below;
        disagrees_here = lowest.here;
        lower_agree = lowest.earlier;
      }
    where
      passes : (b : Bool) → not b ≡ false → b ≡ true
      passes true e = refl
      passes false e = absurd (true≢false e)

pub disagreement_is_first : DisagreementIsFirst
unfolding outcome
disagreement_is_first t x good start k i = at (follows t x) refl
  where
    at : (b : Bool) → follows t x ≡ b → outcome_by t x b ≡ disagree k i → FirstDisagreement t x k i
    at true e same = let z : ◌≡◌ {A = ℕ} 0 1 = cc in absurd (omega arith)
    at false e same =
        let line : first_line t x ≡ k = cc in
        let lowest : lowest_bit t x (first_line t x) ≡ i = cc in
        rw (lowest, line) at (first_disagreement good x start e)
