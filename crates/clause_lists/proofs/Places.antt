-- Values at consecutive variables: what it is for an assignment to have the values of a list from some variable on.
use mathlib.Core.Path.{◌≡◌, sym, ap, ◌∙◌}
use mathlib.Core.Logic.{◌↔◌}
use mathlib.Core.Bool.{Bool, false}
use mathlib.Core.List.{List, [], ◌++◌}
use Prim.Native.Nat.{ℕ, zero, suc, ◌+◌, ◌-◌, ◌<◌}
use native.Mathlib.Decide.{dec_lt}
use native.Mathlib.Omega.{arith}
use lib.ListN.{length, get_or, length-append, get_or-append}
use lib.Seq.{get_or-append-add, ext_get_or}
use Rattle.words.specs.Below.{total, tabulate, concat}
use Rattle.words.proofs.Below.{below_suc, length_tabulate, get_d_tabulate, length_concat}
use Rattle.cnf.specs.Formulas.{variable}

-- v has the values xs at the variables from p on
unfoldable pub Values : (ℕ → Bool) → ℕ → List Bool → Type 0
Values v p xs = (i : ℕ) → i < length xs → v (p + i) ≡ get_or xs i false

pub values_append : (v : ℕ → Bool) (p : ℕ) (xs ys : List Bool)
    → Values v p (xs ++ ys) ↔ (Values v p xs × Values v (p + length xs) ys)
unfolding Values
values_append v p xs ys = (
  λ h. (
    λ i l. h i (omega (arith, length-append xs ys)) ∙ get_or-append xs ys false i l,
    λ i l.
        ap v (regroup i)
        ∙ h (length xs + i) (omega (arith, length-append xs ys))
        ∙ get_or-append-add xs ys i false,
  ),
  λ h i l. at h i l (dec_lt i (length xs)),
)
  where
    regroup : (i : ℕ) → p + length xs + i ≡ p + (length xs + i)
    regroup i = omega arith

    at : (((i : ℕ) → i < length xs → v (p + i) ≡ get_or xs i false)
        × ((i : ℕ) → i < length ys → v (p + length xs + i) ≡ get_or ys i false))
        → (i : ℕ) → i < length (xs ++ ys) → Dec (i < length xs) → v (p + i) ≡ get_or (xs ++ ys) i false
    at h i l (yes less) = h.0 i less ∙ sym (get_or-append xs ys false i less)
    at h i l (no more) =
        ap v shifted
        ∙ h.1 (i - length xs) (omega (arith, length-append xs ys))
        ∙ sym (get_or-append-add xs ys (i - length xs) false)
        ∙ ap (λ (z : ℕ). get_or (xs ++ ys) z false) whole
      where
        shifted : p + i ≡ p + length xs + (i - length xs)
        shifted = omega arith

        whole : length xs + (i - length xs) ≡ i
        whole = omega arith

pub values_none : (v : ℕ → Bool) (p : ℕ) → Values v p []
unfolding Values
values_none v p i l = absurd (omega arith)

pub values_concat : (v : ℕ → Bool) (p n : ℕ) (f : ℕ → List Bool)
    → Values v p (concat n f) ↔ ((k : ℕ) → k < n → Values v (p + total k (λ i. length (f i))) (f k))
unfolding concat
values_concat v p zero f = (λ h k l. absurd (omega arith), λ h. values_none v p)
values_concat v p (suc n) f = (
  λ h.
      below_suc (λ k. Values v (place k) (f k)) n ((values_concat v p n f).0 (parts.0 h).0)
      (rw (sym (length_concat n f)) (parts.0 h).1),
  λ h.
      parts.1 ((values_concat v p n f).1 (λ k l. h k (omega arith)), rw (length_concat n f) (h n (omega arith))),
)
  where
    place : ℕ → ℕ
    place k = p + total k (λ i. length (f i))

    parts : Values v p (concat n f ++ f n) ↔ (Values v p (concat n f) × Values v (p + length (concat n f)) (f n))
    parts = values_append v p (concat n f) (f n)

pub values_tabulate : (v : ℕ → Bool) (p n : ℕ) (g : ℕ → Bool)
    → Values v p (tabulate n g) ↔ ((i : ℕ) → i < n → v (p + i) ≡ g i)
unfolding Values
values_tabulate v p n g = (
  λ h i l. h i (omega (arith, length_tabulate n g)) ∙ get_d_tabulate n g i false l,
  λ h i l.
      h i (omega (arith, length_tabulate n g)) ∙ sym (get_d_tabulate n g i false (omega (arith, length_tabulate n g))),
)

-- from variable 1 on: an assignment has the values of a list of its own length exactly when it is that list
pub values_all : (a xs : List Bool) → length a ≡ length xs → Values (variable a) 1 xs ↔ (a ≡ xs)
unfolding Values
values_all a xs e = (
  λ h. ext_get_or false a xs e (λ i l. ap (λ (z : ℕ). get_or a z false) (sym (first i)) ∙ h i (omega arith)),
  λ h i l. ap (λ (z : ℕ). get_or a z false) (first i) ∙ ap (λ (z : List Bool). get_or z i false) h,
)
  where
    first : (i : ℕ) → 1 + i - 1 ≡ i
    first i = omega arith
