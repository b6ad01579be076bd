-- Numbers in decimal, as bytes (document 01, "The programs").
use Rattle.std.specs.Prelude.{ℕ, zero, suc, ◌+◌, ◌/◌, ◌%◌, List, [], ◌∷◌, ◌++◌}
use Rattle.decimal.specs.Ascii.{ascii}

-- the byte of a digit: the digit 0 is byte 48
abbrev pub digit_byte : ℕ → ℕ
digit_byte d = 48 + d

-- The digits of a number, the highest first; 0 has none. k bounds how many there are, and k = v is enough.
unfoldable pub digits : ℕ → ℕ → List ℕ
digits zero v = []
digits (suc k) zero = []
digits (suc k) (suc v) = digits k (suc v / 10) ++ (digit_byte (suc v % 10) ∷ [])

-- A number in decimal has no 0 in front; the number 0 is written 0.
unfoldable pub decimal : ℕ → List ℕ
decimal zero = digit_byte 0 ∷ []
decimal (suc v) = digits (suc v) (suc v)

-- a number after a blank
unfoldable pub spaced : ℕ → List ℕ
spaced v = ascii " " ++ decimal v

-- numbers, each after a blank, then the line's end
unfoldable pub behind : List ℕ → List ℕ
behind [] = ascii "\n"
behind (v ∷ vs) = spaced v ++ behind vs
