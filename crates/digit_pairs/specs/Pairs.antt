-- The two digits of numbers below 100, in a table.
use Rattle.std.specs.Prelude.{ℕ, ◌+◌, ◌*◌, ◌/◌, ◌%◌, ◌<◌, ◌≡◌, List, [], ◌∷◌, length, get_or}
use Rattle.decimal.specs.Decimal.{digit_byte}

-- both digits of a number below 100, a 0 in front of a number below 10
abbrev pub two_digits : ℕ → List ℕ
two_digits v = digit_byte (v / 10) ∷ digit_byte (v % 10) ∷ []

-- a table of them: those of v stand at 2v
pub record PairTable (table : List ℕ) : Type 0 where
  pub size : length table ≡ 200
  pub tens : (v : ℕ) → v < 100 → get_or table (2 * v) 0 ≡ digit_byte (v / 10)
  pub ones : (v : ℕ) → v < 100 → get_or table (2 * v + 1) 0 ≡ digit_byte (v % 10)
