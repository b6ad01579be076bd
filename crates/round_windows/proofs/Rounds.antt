-- The starts that pass, the rounds that they tell, and the windows of them.
use Prim.Native.Nat.{ℕ, zero, suc, ◌+◌, ◌-◌, ◌<◌, ◌≤◌}
use native.Mathlib.Decide.{dec_lt, le_ind}
use native.Mathlib.Numerals.{add-one}
use native.Mathlib.Omega.{arith}
use mathlib.Core.Path.{◌≡◌, refl, sym, ap, subst, ◌∙◌}
use mathlib.Core.Logic.{◌↔◌}
use mathlib.Core.Bool.{true, ◌&&◌, and-eq-true_iff}
use mathlib.Core.List.{List, [], ◌∷◌}
use borrow.Author.Tests.{ltb-true, lt-ltb, eqb-true, eq-eqb}
use lib.Dec.{eqb, ltb}
use lib.ListN.{length, get_or, get_or-eq_default}
use Rattle.words.proofs.Below.{all_true, all_yes_lem}
use Rattle.trail.specs.Trail.{Trail, line_count}
use Rattle.round_windows.specs.Rounds.{start, rise, begin_with_zero, end_inside, starts_right, StartsRight, StartsExactly, round_line, window_lines, window_count, RoundsRight, RoundsAreRight, WindowRight, WindowsOf, WindowsAreRight}

-- ---- the starts

-- each above the one before: above all before
pub rises : (starts : List ℕ) → rise starts ≡ true → (i j : ℕ) → i < j → j < length starts → start starts i < start starts j
unfolding rise
rises starts e i j l =
    le_ind (λ j. j < length starts → start starts i < start starts j) (step i)
    (λ j _ before h. omega (arith, before (omega arith), step j h))
    j l
  where
    step : (k : ℕ) → suc k < length starts → start starts k < start starts (suc k)
    step k h =
        subst (λ (n : ℕ). start starts k < start starts n) (add-one k)
        (ltb-true (start starts k) (start starts (k + 1)) (all_true (length starts - 1) (λ i. ltb (start starts i) (start starts (i + 1))) e k (omega arith)))

pub starts_exactly : StartsExactly
unfolding starts_right rise begin_with_zero end_inside
starts_exactly t starts = (to, from)
  where
    to : starts_right t starts ≡ true → StartsRight t starts
    to e =
        let upward = (and-eq-true_iff (rise starts) (begin_with_zero starts && end_inside t starts)).0 e in
        let rest = (and-eq-true_iff (begin_with_zero starts) (end_inside t starts)).0 upward.1 in
        let begin = (and-eq-true_iff (ltb 0 (length starts)) (eqb (start starts 0) 0)).0 rest.0 in
        record {
          some = ltb-true 0 (length starts) begin.0;
          first = eqb-true (start starts 0) 0 begin.1;
          rising = rises starts upward.0;
          inside = λ i l. ltb-true (start starts i) (line_count t) (all_true (length starts) (λ i. ltb (start starts i) (line_count t)) rest.1 i l);
        }

    from : StartsRight t starts → starts_right t starts ≡ true
    from right =
        (and-eq-true_iff (rise starts) (begin_with_zero starts && end_inside t starts)).1 (
          all_yes_lem (length starts - 1) (λ i. ltb (start starts i) (start starts (i + 1)))
              (λ i l. lt-ltb (start starts i) (start starts (i + 1)) (right.rising i (i + 1) (omega arith) (omega arith))),
          (and-eq-true_iff (begin_with_zero starts) (end_inside t starts)).1 (
            (and-eq-true_iff (ltb 0 (length starts)) (eqb (start starts 0) 0)).1 (
              lt-ltb 0 (length starts) right.some,
              eq-eqb (start starts 0) 0 right.first,
            ),
            all_yes_lem (length starts) (λ i. ltb (start starts i) (line_count t)) (λ i l. lt-ltb (start starts i) (line_count t) (right.inside i l)),
          ),
        )

-- ---- the rounds

-- inside a list it does not matter what stands for what is past its end
get_or_inside : (l : List ℕ) (i d e : ℕ) → i < length l → get_or l i d ≡ get_or l i e
get_or_inside [] i d e h = absurd (omega arith)
get_or_inside (x ∷ xs) zero d e h = refl
get_or_inside (x ∷ xs) (suc i) d e h = get_or_inside xs i d e (omega arith)

module _ (t : Trail) (starts : List ℕ) where
  pub round_start : (i : ℕ) → i < length starts → round_line t starts i ≡ start starts i
  round_start i l = get_or_inside starts i (line_count t) 0 l

  pub round_end : (i : ℕ) → length starts ≤ i → round_line t starts i ≡ line_count t
  round_end i l = get_or-eq_default starts (line_count t) l

  module _ (right : StartsRight t starts) where
    -- a later round begins at a later line, and the end of the sheet is behind all of them
    pub round_rises : (i j : ℕ) → i < j → i < length starts → round_line t starts i < round_line t starts j
    round_rises i j l inside = at (dec_lt j (length starts))
      where
        at : Dec (j < length starts) → round_line t starts i < round_line t starts j
        at (yes less) = omega (arith, round_start i inside, round_start j less, right.rising i j l less)
        at (no past) = omega (arith, round_start i inside, round_end j (omega arith), right.inside i inside)

    pub round_inside : (i : ℕ) → round_line t starts i ≤ line_count t
    round_inside i = at (dec_lt i (length starts))
      where
        at : Dec (i < length starts) → round_line t starts i ≤ line_count t
        at (yes less) = omega (arith, round_start i less, right.inside i less)
        at (no past) = omega (arith, round_end i (omega arith))

pub rounds_are_right : RoundsAreRight
rounds_are_right t starts right = record {
  first = round_start t starts 0 right.some ∙ right.first;
  at_its_start = round_start t starts;
  some_line = λ i l. round_rises t starts right i (i + 1) (omega arith) l;
  last = round_end t starts (length starts) (omega arith);
}

-- ---- the windows

pub windows_counted : (starts : List ℕ) (r : ℕ) → r ≤ length starts → window_count starts r + r ≡ length starts + 1
unfolding window_count
windows_counted starts r h = omega arith

pub windows_are_right : WindowsAreRight
windows_are_right t starts r right least most = record {
  exactly = λ i. (λ l. omega (arith, windows_counted starts r most), λ l. omega (arith, windows_counted starts r most));
  each = λ i l. each i (omega (arith, windows_counted starts r most));
}
  where
    each : (i : ℕ) → i + r ≤ length starts → WindowRight t starts r i
    each i h =
        let some = round_rises t starts right i (i + r) (omega arith) (omega arith) in
        record {
          some_line = omega arith;
          inside = omega (arith, round_inside t starts right (i + r));
          up_to_the_next = λ l. omega (arith, round_start t starts (i + r) l);
          up_to_the_end = λ e. omega (arith, round_end t starts (i + r) (omega arith));
        }
