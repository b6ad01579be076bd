-- Equal lines make the same words in every run, so what an earlier line asks of a starting value its repeats do not ask again.
use Prim.Native.Nat.{ℕ, zero, suc, ◌+◌, ◌<◌}
use native.Mathlib.Nat.{zero-add}
use native.Mathlib.Omega.{arith}
use mathlib.Core.Path.{◌≡◌, refl, sym, ap, ap₂, ◌∙◌}
use mathlib.Core.Bool.{Bool, true, false, not, ◌&&◌, ◌||◌, and-eq-true_iff, or-false}
use mathlib.Core.List.{List}
use borrow.Author.Tests.{eqb-true, eq-eqb}
use lib.Bits.{bit_xor}
use lib.Dec.{eqb}
use Rattle.words.specs.Words.{value}
use Rattle.words.specs.Below.{any, all, count}
use Rattle.words.proofs.Below.{any_found, any_witness, all_true, all_unless}
use Rattle.trail.specs.declared.Line.{Line}
use Rattle.trail.specs.Kinds.{makes}
use Rattle.trail.specs.Trail.{Trail, input_count, line_count, line_at}
use Rattle.trail.specs.WellFormed.{WellFormed}
use Rattle.trail.specs.Runs.{run_word, partner, is_start, line_follows, follows}
use Rattle.trail.specs.Repeats.{equal_lines, EqualExactly, is_repeat, CopiesFollow, FollowsOnce, OneIsNoRepeat}
use Rattle.trail.proofs.Runs.{run_line, partner_start}

-- ---- equal lines

pub same_line : {l r : Line} → l.kind ≡ r.kind → l.amount ≡ r.amount → l.first ≡ r.first → l.second ≡ r.second
    → l.constant ≡ r.constant → l.difference ≡ r.difference → l ≡ r
same_line kind amount first second constant difference i = record {
  kind = kind i;
  amount = amount i;
  first = first i;
  second = second i;
  constant = constant i;
  difference = difference i;
}

pub equal_lines_lem : (l r : Line) → equal_lines l r ≡ true → l ≡ r
unfolding equal_lines
equal_lines_lem l r e =
    let kind = (and-eq-true_iff (eqb l.kind r.kind) _).0 e in
    let amount = (and-eq-true_iff (eqb l.amount r.amount) _).0 kind.1 in
    let first = (and-eq-true_iff (eqb l.first r.first) _).0 amount.1 in
    let second = (and-eq-true_iff (eqb l.second r.second) _).0 first.1 in
    let rest = (and-eq-true_iff (eqb l.constant r.constant) _).0 second.1 in
    same_line
    (eqb-true l.kind r.kind kind.0)
    (eqb-true l.amount r.amount amount.0)
    (eqb-true l.first r.first first.0)
    (eqb-true l.second r.second second.0)
    (eqb-true l.constant r.constant rest.0)
    (eqb-true l.difference r.difference rest.1)

pub lines_equal : (l r : Line) → l ≡ r → equal_lines l r ≡ true
unfolding equal_lines
lines_equal l r e = ap (equal_lines l) (sym e) ∙ own
  where
    own : equal_lines l l ≡ true
    own =
        rw (eq-eqb l.kind l.kind refl, eq-eqb l.amount l.amount refl, eq-eqb l.first l.first refl, eq-eqb l.second l.second refl, eq-eqb l.constant l.constant refl)
        (eq-eqb l.difference l.difference refl)

pub equal_exactly : EqualExactly
equal_exactly l r = (equal_lines_lem l r, lines_equal l r)

-- ---- two runs

copy_word : {t : Trail} → WellFormed t → (x : List ℕ) → is_start t x ≡ true → (i k : ℕ) → i < line_count t → k < line_count t
    → line_at t i ≡ line_at t k → run_word t x (input_count t + i) ≡ run_word t x (input_count t + k)
copy_word {t} good x start i k hi hk e =
    run_line good x start i hi
    ∙ ap (λ (l : Line). makes t.width l (run_word t x l.first) (run_word t x l.second)) e
    ∙ sym (run_line good x start k hk)

-- equal lines follow alike
copy_follows : {t : Trail} → WellFormed t → (x : List ℕ) → is_start t x ≡ true → (i k : ℕ) → i < line_count t → k < line_count t
    → line_at t i ≡ line_at t k → line_follows t x i ≡ line_follows t x k
unfolding line_follows
copy_follows {t} good x start i k hi hk e =
    ap₂ eqb
    (ap₂ bit_xor (copy_word good x start i k hi hk e) (copy_word good (partner t x) (partner_start good x start) i k hi hk e))
    (ap (λ (l : Line). l.difference) e)

pub copies_follow : CopiesFollow
copies_follow t good x start i k hi hk e follow =
    sym (copy_follows good x start i k hi hk (equal_lines_lem (line_at t i) (line_at t k) e)) ∙ follow

pub follows_once : FollowsOnce
unfolding follows is_repeat
follows_once t good x start = all_unless (line_count t) (line_follows t x) (is_repeat t 0) told
  where
    told : (k : ℕ) → k < line_count t → is_repeat t 0 k ≡ true → all k (line_follows t x) ≡ true → line_follows t x k ≡ true
    told k l repeated before =
        let w = any_witness k (λ i. equal_lines (line_at t (0 + i)) (line_at t (0 + k))) repeated in
        let same = equal_lines_lem (line_at t (0 + w.number)) (line_at t (0 + k)) w.passes in
        sym
        (copy_follows good x start w.number k (omega (arith, w.below)) l
        (ap (line_at t) (sym (zero-add w.number)) ∙ same ∙ ap (line_at t) (zero-add k)))
        ∙ all_true k (line_follows t x) before w.number w.below

-- ---- the lines that are no repeats

module _ (t : Trail) (from k : ℕ) where
  copy : ℕ → Bool
  copy i = equal_lines (line_at t (from + i)) (line_at t (from + k))

  -- of the lines below a bound that are equal to line k the first is no repeat, and every other is one
  count_copies : (b : ℕ) → count b (λ i. copy i && not (is_repeat t from i)) ≡ value (any b copy)
  unfolding count any copy is_repeat
  count_copies zero = refl
  count_copies (suc b) = at (copy b) refl (count_copies b)
    where
      at : (found : Bool) → copy b ≡ found → count b (λ i. copy i && not (is_repeat t from i)) ≡ value (any b copy)
          → count b (λ i. copy i && not (is_repeat t from i)) + value (found && not (is_repeat t from b)) ≡ value (any b copy || found)
      at false e before = rw (or-false (any b copy)) (omega (arith, before))
      at true e before = rw (before, again) (first_or_later (any b copy))
        where
          again : is_repeat t from b ≡ any b copy
          again = ap (λ (l : Line). any b (λ i. equal_lines (line_at t (from + i)) l)) (equal_lines_lem (line_at t (from + b)) (line_at t (from + k)) e)

          first_or_later : (earlier : Bool) → value earlier + value (not earlier) ≡ value (earlier || true)
          first_or_later true = refl
          first_or_later false = refl

pub one_is_no_repeat : OneIsNoRepeat
unfolding copy
one_is_no_repeat t from lines k l =
    count_copies t from k lines
    ∙ ap value (any_found lines (copy t from k) k l (lines_equal (line_at t (from + k)) (line_at t (from + k)) refl))
