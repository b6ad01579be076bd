-- The pairs of a list of changes (document 02, W-207).
use Rattle.std.specs.Prelude.{ℕ, ◌+◌, ◌*◌, ◌/◌, ◌<◌, ◌≡◌, List, [], ◌∷◌, length, get_or}

-- a pair of line and difference
pub record Pair : Type 0 where
  pub line : ℕ
  pub difference : ℕ

abbrev pub pair : ℕ → ℕ → Pair
pair k d = record { line = k; difference = d }

-- the pairs that a list of numbers holds: line, difference, line, difference, ..; a last number with no partner is no pair
unfoldable pub pairs_of : List ℕ → List Pair
pairs_of [] = []
pairs_of (k ∷ []) = []
pairs_of (k ∷ (d ∷ rest)) = pair k d ∷ pairs_of rest

-- one for every two numbers, and pair i is numbers 2 i and 2 i + 1
pub record InOrder (numbers : List ℕ) : Type 0 where
  pub count : length (pairs_of numbers) ≡ length numbers / 2
  pub pair_is : (i : ℕ) → i < length numbers / 2
      → get_or (pairs_of numbers) i (pair 0 0) ≡ pair (get_or numbers (2 * i) 0) (get_or numbers (2 * i + 1) 0)

abbrev pub PairsInOrder : Type 0
PairsInOrder = (numbers : List ℕ) → InOrder numbers
