-- The pairs of a list of numbers, one by one.
use Prim.Native.Nat.{ℕ, suc, ◌+◌, ◌*◌, ◌/◌}
use native.Mathlib.Omega.{arith}
use mathlib.Core.Path.{◌≡◌, refl, sym, ap, ap₂, ◌∙◌}
use mathlib.Core.List.{List, [], ◌∷◌}
use lib.ListN.{length, get_or}
use Rattle.words.specs.Below.{tabulate}
use Rattle.words.proofs.Below.{length_tabulate, get_d_tabulate, tabulate_cong, tabulate_first}
use Rattle.change_lists.specs.Pairs.{Pair, pair, pairs_of, PairsInOrder}

-- pair i: numbers 2 i and 2 i + 1
abbrev pub pair_at : List ℕ → ℕ → Pair
pair_at numbers i = pair (get_or numbers (2 * i) 0) (get_or numbers (2 * i + 1) 0)

pub pairs_tabulated : (numbers : List ℕ) → pairs_of numbers ≡ tabulate (length numbers / 2) (pair_at numbers)
unfolding pairs_of tabulate
pairs_tabulated [] = refl
pairs_tabulated (k ∷ []) = refl
pairs_tabulated (k ∷ (d ∷ rest)) =
    ap (λ (l : List Pair). pair k d ∷ l) (pairs_tabulated rest ∙ tabulate_cong (length rest / 2) (pair_at rest) (λ i. pair_at all (suc i)) (λ i l. later i))
    ∙ sym (tabulate_first (length rest / 2) (pair_at all))
    ∙ ap (λ (n : ℕ). tabulate n (pair_at all)) half
  where
    all : List ℕ
    all = k ∷ (d ∷ rest)

    half : suc (length rest / 2) ≡ length all / 2
    half = omega arith

    later : (i : ℕ) → pair_at rest i ≡ pair_at all (suc i)
    later i =
        let first : 2 * suc i ≡ suc (suc (2 * i)) = omega arith in
        let second : 2 * suc i + 1 ≡ suc (suc (2 * i + 1)) = omega arith in
        sym (ap₂ (λ (a b : ℕ). pair (get_or all a 0) (get_or all b 0)) first second)

-- one for every two numbers
pub pairs_count : (numbers : List ℕ) → length (pairs_of numbers) ≡ length numbers / 2
pairs_count numbers = ap length (pairs_tabulated numbers) ∙ length_tabulate (length numbers / 2) (pair_at numbers)

pub pairs_in_order : PairsInOrder
pairs_in_order numbers = record {
  count = pairs_count numbers;
  pair_is = λ i l.
      ap (λ (ps : List Pair). get_or ps i (pair 0 0)) (pairs_tabulated numbers) ∙ get_d_tabulate (length numbers / 2) (pair_at numbers) i (pair 0 0) l;
}
