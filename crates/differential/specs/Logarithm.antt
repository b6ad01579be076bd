-- The logarithm of a chain's number p, in sixteenths (document 01, "Line reports").
use Rattle.std.specs.Prelude.{ℕ, zero, suc, ◌+◌, ◌-◌, ◌*◌, cond}
use Rattle.words.specs.Words.{bit, bit_below, from_bits}
use Rattle.differential.specs.Unit.{unit, table}

-- the place of the highest one among a number's lowest b bits, 0 if there is none
unfoldable pub highest_one_below : ℕ → ℕ → ℕ
highest_one_below zero p = 0
highest_one_below (suc b) p = cond (bit p b) b (highest_one_below b p)

-- M is the place of p's highest one; every one of p stands at a place below p
unfoldable pub highest_one : ℕ → ℕ
highest_one p = highest_one_below p p

-- F the four bits after it, filled with zeros
unfoldable pub next_four : ℕ → ℕ
next_four p = from_bits 4 (λ j. bit_below (4 - j) p (highest_one p))

-- A = 16 M + F
unfoldable pub logarithm : ℕ → ℕ
logarithm p = unit * highest_one p + table (next_four p)
