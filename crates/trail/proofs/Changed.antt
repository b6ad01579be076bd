-- A trail with one stated difference changed: its lines and differences, and that it is well-formed.
use Prim.Native.Nat.{ℕ, ◌+◌, ◌-◌, ◌^◌, ◌<◌}
use native.Mathlib.Decide.{dec_lt, ℕ_discrete}
use native.Mathlib.Omega.{arith}
use mathlib.Core.Path.{◌≡◌, refl, sym, ap, subst, ◌∙◌}
use mathlib.Core.Logic.{◌≢◌}
use mathlib.Core.Bool.{cond}
use borrow.Author.Tests.{eq-eqb, ne_eqb}
use lib.Dec.{eqb}
use lib.ListN.{length-set}
use lib.Seq.{get_or-set_same, get_or-set_other, set-get_or}
use Rattle.trail.specs.declared.Line.{Line}
use Rattle.trail.specs.Trail.{Trail, input_count, line_count, no_line, line_at, difference_at}
use Rattle.trail.specs.WellFormed.{WellFormedLine, WellFormed}
use Rattle.trail.specs.Changing.{stating, with_difference, ChangingIsRight, SameAgain}
use Rattle.trail.proofs.Differences.{difference_input, difference_line}

module _ (t : Trail) (k d : ℕ) where
  pub changed_count : line_count (with_difference t k d) ≡ line_count t
  changed_count = length-set t.lines k (stating (line_at t k) d)

  pub line_other : (i : ℕ) → i ≢ k → line_at (with_difference t k d) i ≡ line_at t i
  unfolding line_at
  line_other i h = get_or-set_other t.lines k i (stating (line_at t k) d) no_line h

  pub line_changed : k < line_count t → line_at (with_difference t k d) k ≡ stating (line_at t k) d
  unfolding line_at
  line_changed l = get_or-set_same t.lines k (stating (line_at t k) d) no_line l

  -- every word's difference but that of line k is the same
  pub difference_other : (j : ℕ) → j ≢ input_count t + k → difference_at (with_difference t k d) j ≡ difference_at t j
  difference_other j h = at (dec_lt j (input_count t))
    where
      at : Dec (j < input_count t) → difference_at (with_difference t k d) j ≡ difference_at t j
      at (yes l) = difference_input (with_difference t k d) j l ∙ sym (difference_input t j l)
      at (no l) =
          ap (difference_at (with_difference t k d)) whole
          ∙ difference_line (with_difference t k d) (j - input_count t)
          ∙ ap (λ (r : Line). r.difference) (line_other (j - input_count t) (λ e. h (omega arith)))
          ∙ sym (difference_line t (j - input_count t))
          ∙ ap (difference_at t) (sym whole)
        where
          whole : j ≡ input_count t + (j - input_count t)
          whole = omega arith

  pub difference_changed : k < line_count t → difference_at (with_difference t k d) (input_count t + k) ≡ d
  difference_changed l = difference_line (with_difference t k d) k ∙ ap (λ (r : Line). r.difference) (line_changed l)

  -- the same by a test, as code asks it
  module _ (known : k < line_count t) where
    pub difference_tested : (j : ℕ) → difference_at (with_difference t k d) j ≡ cond (eqb j (input_count t + k)) d (difference_at t j)
    difference_tested j = at (ℕ_discrete j (input_count t + k))
      where
        at : Dec (j ≡ input_count t + k) → difference_at (with_difference t k d) j ≡ cond (eqb j (input_count t + k)) d (difference_at t j)
        at (yes e) = ap (difference_at (with_difference t k d)) e ∙ difference_changed known ∙ sym (rw (eq-eqb j (input_count t + k) e))
        at (no h) = difference_other j h ∙ sym (rw (ne_eqb j (input_count t + k) h))

    pub line_tested : (i : ℕ)
        → line_at (with_difference t k d) i ≡ stating (line_at t i) (cond (eqb (input_count t + i) (input_count t + k)) d (line_at t i).difference)
    line_tested i = at (ℕ_discrete i k)
      where
        at : Dec (i ≡ k)
            → line_at (with_difference t k d) i ≡ stating (line_at t i) (cond (eqb (input_count t + i) (input_count t + k)) d (line_at t i).difference)
        at (yes e) =
            ap (line_at (with_difference t k d)) e
            ∙ line_changed known
            ∙ ap (λ (j : ℕ). stating (line_at t j) d) (sym e)
            ∙ sym (rw (eq-eqb (input_count t + i) (input_count t + k) (omega arith)))
        at (no h) = line_other i h ∙ sym (rw (ne_eqb (input_count t + i) (input_count t + k) (λ e. h (omega arith))))

  -- the changed trail is well-formed again
  pub changed_well_formed : WellFormed t → d < 2 ^ t.width → WellFormed (with_difference t k d)
  changed_well_formed good word = record {
    width_least = good.width_least;
    inputs_least = good.inputs_least;
    lines_least = omega (arith, changed_count, good.lines_least);
    inputs_words = good.inputs_words;
    lines_right = λ i h. right i (omega (arith, changed_count)) (ℕ_discrete i k);
  }
    where
      stated : (j : ℕ) (l : Line) → WellFormedLine t.width j l → WellFormedLine t.width j (stating l d)
      stated j l w = record {
        kind_known = w.kind_known;
        first_earlier = w.first_earlier;
        second_earlier = w.second_earlier;
        operands_differ = w.operands_differ;
        amount_least = w.amount_least;
        amount_most = w.amount_most;
        constant_word = w.constant_word;
        difference_word = word;
        second_unused = w.second_unused;
        amount_unused = w.amount_unused;
        constant_unused = w.constant_unused;
      }

      right : (i : ℕ) → i < line_count t → Dec (i ≡ k) → WellFormedLine t.width (input_count t + i) (line_at (with_difference t k d) i)
      right i l (yes e) =
          subst (WellFormedLine t.width (input_count t + i)) (sym (ap (line_at (with_difference t k d)) e ∙ line_changed (omega arith)))
          (stated (input_count t + i) (line_at t k) (subst (λ (z : ℕ). WellFormedLine t.width (input_count t + i) (line_at t z)) e (good.lines_right i l)))
      right i l (no h) = subst (WellFormedLine t.width (input_count t + i)) (sym (line_other i h)) (good.lines_right i l)

pub changing_is_right : ChangingIsRight
changing_is_right t k d good known word = record {
  well_formed = changed_well_formed t k d good word;
  width = refl;
  inputs = refl;
  lines = changed_count t k d;
  line = line_changed t k d known;
  other_lines = line_other t k d;
  difference = difference_changed t k d known;
  other_differences = difference_other t k d;
}

pub same_again : SameAgain
unfolding line_at
same_again t k =
    let lines = set-get_or t.lines k no_line in
    λ i. record { width = t.width; inputs = t.inputs; lines = lines i }
