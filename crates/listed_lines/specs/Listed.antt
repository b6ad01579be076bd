-- Lines in a list of numbers. Inner notions of the code: no document speaks of them.
use Rattle.std.specs.Prelude.{ℕ, ◌+◌, ◌*◌, ◌%◌, ◌^◌, Bool, List, [], ◌∷◌, eqb, length, get_or}
use Rattle.std.specs.Int.Bits.{bit_xor}
use Rattle.words.specs.Below.{any, all}
use Rattle.trail.specs.declared.Line.{Line}

-- so many numbers to a line
abbrev pub line_numbers : ℕ
line_numbers = 7

-- a number in which lines that differ nearly always differ
abbrev pub fingerprint : Line → ℕ
fingerprint l = bit_xor (bit_xor (bit_xor (l.first * 2 ^ 48 % 2 ^ 64) (l.second * 2 ^ 32 % 2 ^ 64)) l.constant) l.difference

-- a line's numbers: its fingerprint, and its fields
abbrev pub numbers_of : Line → List ℕ
numbers_of l = fingerprint l ∷ l.first ∷ l.second ∷ l.difference ∷ l.constant ∷ l.kind ∷ l.amount ∷ []

-- whether the numbers stand in a list from a position on
unfoldable pub stands_at : List ℕ → ℕ → List ℕ → Bool
stands_at s at numbers = all (length numbers) (λ j. eqb (get_or s (at + j) 0) (get_or numbers j 0))

-- whether one of the first `count` lines is this one
unfoldable pub is_listed : List ℕ → ℕ → Line → Bool
is_listed s count l = any count (λ i. stands_at s (line_numbers * i) (numbers_of l))
