-- What a right list of names says, name by name.
use mathlib.Core.Path.{◌≡◌, sym, ap, ◌∙◌}
use mathlib.Core.Bool.{Bool, true, not, ◌&&◌, and-eq-true_iff, true≢false}
use mathlib.Core.List.{List}
use Prim.Native.Nat.{ℕ, ◌+◌, ◌<◌}
use native.Mathlib.Decide.{dec_lt}
use native.Mathlib.Omega.{arith}
use borrow.Author.Tests.{eqb-true, eq-eqb, ne_eqb, ltb-true, lt-ltb}
use lib.Dec.{eqb, ltb}
use lib.ListN.{length, get_or}
use Rattle.words.specs.Below.{any, all}
use Rattle.words.proofs.Below.{all_true, all_yes_lem, any_no, any_found}
use Rattle.trail.specs.Trail.{Trail, input_count, line_count, difference_at}
use Rattle.trail.specs.Joining.{named, name_right, names_right, NamesRight, NamesRightExactly}

-- two trails that a list of names joins
pub record Joinable (a b : Trail) (names : List ℕ) : Type 0 where
  pub same_width : a.width ≡ b.width
  pub each_named : length names ≡ input_count b
  pub names_known : (j : ℕ) → j < input_count b → named names j < input_count a + line_count a
  pub names_once : (i j : ℕ) → i < input_count b → j < input_count b → named names i ≡ named names j → i ≡ j
  pub names_differ : (j : ℕ) → j < input_count b → difference_at a (named names j) ≡ get_or b.inputs j 0

module _ (a b : Trail) (names : List ℕ) where
  -- whether an earlier name i is name j's word
  abbrev same : ℕ → ℕ → Bool
  same j i = eqb (named names i) (named names j)

  abbrev known : ℕ → Bool
  known j = ltb (named names j) (input_count a + line_count a)

  abbrev agrees : ℕ → Bool
  agrees j = eqb (difference_at a (named names j)) (get_or b.inputs j 0)

  right_names : names_right a b names ≡ true → NamesRight a b names
  unfolding names_right name_right
  right_names right = record {
    one_for_each = eqb-true (length names) (input_count b) both.0;
    known = λ j l. ltb-true (named names j) (input_count a + line_count a) (each j l).0;
    once = λ i j l h e.
        true≢false
        (sym ((and-eq-true_iff (not (any j (same j))) (agrees j)).0 (each j h).1).0
        ∙ ap not (any_found j (same j) i l (eq-eqb (named names i) (named names j) e)));
    same_difference = λ j l.
        eqb-true (difference_at a (named names j)) (get_or b.inputs j 0) ((and-eq-true_iff (not (any j (same j))) (agrees j)).0 (each j l).1).1;
  }
    where
      both : (eqb (length names) (input_count b) ≡ true) × (all (length names) (name_right a b names) ≡ true)
      both = (and-eq-true_iff (eqb (length names) (input_count b)) (all (length names) (name_right a b names))).0 right

      each : (j : ℕ) → j < length names → (known j ≡ true) × ((not (any j (same j)) && agrees j) ≡ true)
      each j l = (and-eq-true_iff (known j) (not (any j (same j)) && agrees j)).0 (all_true (length names) (name_right a b names) both.1 j l)

  names_pass : NamesRight a b names → names_right a b names ≡ true
  unfolding names_right name_right
  names_pass right =
      (and-eq-true_iff (eqb (length names) (input_count b)) (all (length names) (name_right a b names))).1 (
        eq-eqb (length names) (input_count b) right.one_for_each,
        all_yes_lem (length names) (name_right a b names)
            (λ j l.
            (and-eq-true_iff (known j) (not (any j (same j)) && agrees j)).1 (
              lt-ltb (named names j) (input_count a + line_count a) (right.known j l),
              (and-eq-true_iff (not (any j (same j))) (agrees j)).1 (
                ap not (any_no j (same j) (λ i h. ne_eqb (named names i) (named names j) (right.once i j h l))),
                eq-eqb (difference_at a (named names j)) (get_or b.inputs j 0) (right.same_difference j l),
              ),
            )),
      )

  pub joinable : a.width ≡ b.width → names_right a b names ≡ true → Joinable a b names
  joinable width passed = record {
    same_width = width;
    each_named = many;
    names_known = λ j l. right.known j (omega (arith, many));
    names_once = once;
    names_differ = λ j l. right.same_difference j (omega (arith, many));
  }
    where
      right : NamesRight a b names
      right = right_names passed

      many : length names ≡ input_count b
      many = right.one_for_each

      once : (i j : ℕ) → i < input_count b → j < input_count b → named names i ≡ named names j → i ≡ j
      once i j hi hj e = at (dec_lt i j) (dec_lt j i)
        where
          at : Dec (i < j) → Dec (j < i) → i ≡ j
          at (yes l) r = absurd (right.once i j l (omega (arith, many)) e)
          at (no l) (yes r) = absurd (right.once j i r (omega (arith, many)) (sym e))
          at (no l) (no r) = omega arith

pub names_right_exactly : NamesRightExactly
names_right_exactly a b names = (right_names a b names, names_pass a b names)
