-- The tables of a line's gates. Two functions look only at how many inputs are 1: those of the literals, which the row tells, and the
-- known ones, of which there is one where the constant's bit is 1. So a table is computed over all rows of up to three literals. The
-- borrow's are computed over the rows of its own inputs.
use Prim.Native.Nat.{ℕ, zero, suc, ◌+◌, ◌/◌, ◌^◌, ◌≤◌, ◌<◌}
use native.Mathlib.Nat.{pow-suc, div-lt_iff_lt-mul}
use native.Mathlib.Numerals.{add-one}
use native.Mathlib.Omega.{arith}
use mathlib.Core.Path.{◌≡◌, refl, ap, subst, ◌∙◌}
use mathlib.Core.Bool.{Bool, true, false, cond, xor, beq}
use mathlib.Core.List.{List, [], ◌∷◌}
use lib.Dec.{leb}
use lib.IntN.{ℤ}
use lib.ListN.{length}
use Rattle.words.specs.Words.{bit, value}
use Rattle.words.specs.Below.{all, count}
use Rattle.words.proofs.Below.{all_true}
use Rattle.words.proofs.Bits.{bit_suc, false_xor}
use Rattle.words.proofs.TruthTables.{by_table}
use Rattle.cnf.specs.Gates.{Input, literals, values_in}
use Rattle.cnf.specs.Gates.Input.{known, literal}
use Rattle.clause_lists.specs.Kinds.{parity, ones, two_or_more, less_than}
use Rattle.bit_gates.specs.Gates.{IsTable}

-- how many of the known inputs are 1
unfoldable pub known_ones : List Input → ℕ
known_ones [] = 0
known_ones (known b ∷ is) = value b + known_ones is
known_ones (literal l ∷ is) = known_ones is

ones_values : (is : List Input) (row : ℕ) → ones (values_in is row) ≡ known_ones is + count (length (literals is)) (bit (row / 2))
unfolding ones values_in literals known_ones count
ones_values [] row = refl
ones_values (known b ∷ is) row = omega (arith, ones_values is row)
ones_values (literal l ∷ is) row =
    let here = ap value (ap (bit row) (add-one (length (literals is))) ∙ bit_suc row (length (literals is))) in
    omega (arith, ones_values is row, here)

-- ---- a function of how many inputs are 1

module _ (f : ℕ → Bool) (table : Bool → ℕ) where
  -- whether the table has its values at every row of k literals beside a known input
  abbrev has_values : Bool → ℕ → Bool
  has_values b k = all (2 ^ k) (λ t. beq (f (value b + count k (bit t))) (bit (table b) t))

  by_rows : ((b : Bool) → all 4 (has_values b) ≡ true) → (is : List Input) (b : Bool) → known_ones is ≡ value b
      → length (literals is) ≤ 3 → (row : ℕ) → row < 2 ^ (length (literals is) + 1) → f (ones (values_in is row)) ≡ bit (table b) (row / 2)
  by_rows test is b e few row less =
      ap f (ones_values is row ∙ ap (λ (n : ℕ). n + count (length (literals is)) (bit (row / 2))) e)
      ∙ by_table 0 (f (value b + count (length (literals is)) (bit (row / 2)))) (bit (table b) (row / 2))
      (all_true (2 ^ length (literals is)) _ (all_true 4 (has_values b) (test b) (length (literals is)) (omega arith)) (row / 2) half)
    where
      half : row / 2 < 2 ^ length (literals is)
      half =
          (div-lt_iff_lt-mul {k = 2} (omega arith)).1
          (subst (λ (n : ℕ). row < n) (ap (λ (n : ℕ). 2 ^ n) (add-one (length (literals is))) ∙ pow-suc 2 (length (literals is))) less)

-- ---- the two functions

is_odd : ℕ → Bool
is_odd zero = false
is_odd (suc n) = xor true (is_odd n)

parity_odd : (bs : List Bool) → parity bs ≡ is_odd (ones bs)
unfolding parity ones is_odd
parity_odd [] = refl
parity_odd (b ∷ bs) = ap (xor b) (parity_odd bs) ∙ at b (ones bs)
  where
    at : (b : Bool) (n : ℕ) → xor b (is_odd n) ≡ is_odd (value b + n)
    at true n = let e : suc n ≡ 1 + n = omega arith in ap is_odd e
    at false n = let e : n ≡ 0 + n = omega arith in false_xor (is_odd n) ∙ ap is_odd e

module _ (is : List Input) (b : Bool) (e : known_ones is ≡ value b) (few : length (literals is) ≤ 3) where
  pub parity_table : IsTable parity is (cond b 0b0110_1001 0b1001_0110)
  unfolding all bit count is_odd xor
  parity_table row less =
      parity_odd (values_in is row)
      ∙ by_rows is_odd (λ b. cond b 0b0110_1001 0b1001_0110) test is b e few row less
    where
      test : (b : Bool) → all 4 (has_values is_odd (λ b. cond b 0b0110_1001 0b1001_0110) b) ≡ true
      test true = refl
      test false = refl

  pub carry_table : IsTable two_or_more is (cond b 0b1111_1110 0b1110_1000)
  unfolding all bit count two_or_more
  carry_table row less = by_rows (leb 2) (λ b. cond b 0b1111_1110 0b1110_1000) test is b e few row less
    where
      test : (b : Bool) → all 4 (has_values (leb 2) (λ b. cond b 0b1111_1110 0b1110_1000) b) ≡ true
      test true = refl
      test false = refl

-- ---- the borrow, in bit 0 and above it

pub less_lowest : (a b : ℤ) → IsTable less_than (literal a ∷ literal b ∷ known false ∷ []) 0b0010
unfolding all bit less_than ones values_in literals
less_lowest a b row less =
    by_table 0 (less_than (bit row 2 ∷ bit row 1 ∷ false ∷ [])) (bit 0b0010 (row / 2))
    (all_true 8 (λ row. beq (less_than (bit row 2 ∷ bit row 1 ∷ false ∷ [])) (bit 0b0010 (row / 2))) refl row less)

pub less_above : (a b c : ℤ) → IsTable less_than (literal a ∷ literal b ∷ literal c ∷ []) 0b1000_1110
unfolding all bit less_than ones values_in literals
less_above a b c row less =
    by_table 0 (less_than (bit row 3 ∷ bit row 2 ∷ bit row 1 ∷ [])) (bit 0b1000_1110 (row / 2))
    (all_true 16 (λ row. beq (less_than (bit row 3 ∷ bit row 2 ∷ bit row 1 ∷ [])) (bit 0b1000_1110 (row / 2))) refl row less)
