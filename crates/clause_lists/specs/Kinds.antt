-- What each kind of line ties together in a bit (document 01, "Clauses"; document 02, W-201).
use Rattle.std.specs.Prelude.{ℕ, zero, suc, ◌+◌, ◌-◌, ◌%◌, Bool, true, false, cond, List, [], ◌∷◌, ◌++◌, leb, ltb, ℤ}
use Rattle.std.specs.Bool.{xor}
use Rattle.words.specs.Words.{bit, value, carry_into, borrow_into}
use Rattle.trail.specs.declared.Line.{Line}
use Rattle.trail.specs.Kinds.{Kind, uses_second, uses_constant}
use Rattle.trail.specs.Kinds.Kind.{xorWords, xorConstant, rotatesLeft, rotatesRight, addWords, addConstant, shiftsLeft, shiftsRight, subtractWords, unknown}
use Rattle.cnf.specs.Gates.{Input}
use Rattle.cnf.specs.Gates.Input.{known, literal}

-- a result's bit is the XOR of its inputs
unfoldable pub parity : List Bool → Bool
parity [] = false
parity (b ∷ bs) = xor b (parity bs)

unfoldable pub ones : List Bool → ℕ
ones [] = 0
ones (b ∷ bs) = value b + ones bs

-- the next carry is 1 if two or more of the inputs are
unfoldable pub two_or_more : List Bool → Bool
two_or_more bs = leb 2 (ones bs)

-- the next borrow is 1 if the first of the inputs is less than the others together
unfoldable pub less_than : List Bool → Bool
less_than [] = false
less_than (b ∷ bs) = ltb (value b) (ones bs)

-- A bit of a line takes a bit of the first operand, or none: then its input is a filled zero, a known value and no literal.
pub data Taken : Type 0 where
  bit_at : ℕ → Taken
  no_bit : Taken

-- whether a zero is filled in
abbrev pub is_filled : Taken → Bool
is_filled (bit_at i) = false
is_filled no_bit = true

-- The carries of a kind's lines: none, or those that a function makes of a bit's inputs; with the value that a run gives the carry
-- into bit i of summands x and y. A borrow replaces the carry: its x and y are the first word and the second.
pub data Carries : Type 0 where
  none : Carries
  made : (next : List Bool → Bool) (value : ℕ → ℕ → ℕ → Bool) → Carries

-- What a kind says of the gates of its lines: which bit of the first operand bit i takes, at width n and with the line's amount, and
-- its carries.
pub record Gates : Type 0 where
  pub taken : ℕ → ℕ → ℕ → Taken
  pub carries : Carries

-- A word of n bits rotated left by r has in bit i the bit that stood r places below, around the end; rotated right, the one r places
-- above. A shift does not go around the end: where there is no such bit, a zero is filled in.
abbrev pub gates : Kind → Gates
gates xorWords = record { taken = λ n r i. bit_at i; carries = none }
gates xorConstant = record { taken = λ n r i. bit_at i; carries = none }
gates rotatesLeft = record { taken = λ n r i. bit_at ((i + (n - r)) % n); carries = none }
gates rotatesRight = record { taken = λ n r i. bit_at ((i + r) % n); carries = none }
gates addWords = record { taken = λ n r i. bit_at i; carries = made two_or_more carry_into }
gates addConstant = record { taken = λ n r i. bit_at i; carries = made two_or_more carry_into }
gates shiftsLeft = record { taken = λ n r i. cond (ltb i r) no_bit (bit_at (i - r)); carries = none }
gates shiftsRight = record { taken = λ n r i. cond (ltb (i + r) n) (bit_at (i + r)) no_bit; carries = none }
gates subtractWords = record { taken = λ n r i. bit_at i; carries = made less_than borrow_into }
gates unknown = record { taken = λ n r i. no_bit; carries = none }

abbrev pub some_carries : Carries → Bool
some_carries none = false
some_carries (made next value) = true

abbrev pub has_carries : Kind → Bool
has_carries q = some_carries (gates q).carries

-- ---- the inputs of a bit, `word j i` being the literal of bit i of word j, and `carry i` that of the carry into bit i

abbrev pub taken_input : Taken → (ℕ → ℤ) → Input
taken_input (bit_at i) bits = literal (bits i)
taken_input no_bit bits = known false

-- the second operand's bit, or the constant's, which is no literal
abbrev pub other_inputs : Kind → Line → (ℕ → ℕ → ℤ) → ℕ → List Input
other_inputs q l word i =
    cond (uses_second q) (literal (word l.second i) ∷ [])
    (cond (uses_constant q) (known (bit l.constant i) ∷ [])
    [])

-- the carry into bit 0 is no literal, and is 0
abbrev pub carry_input : (ℕ → ℤ) → ℕ → Input
carry_input carry zero = known false
carry_input carry (suc i) = literal (carry (suc i))

abbrev pub carry_inputs : Carries → (ℕ → ℤ) → ℕ → List Input
carry_inputs none carry i = []
carry_inputs (made next value) carry i = carry_input carry i ∷ []

-- the inputs of bit i: first operand, second operand, carry
abbrev pub inputs_as : Kind → ℕ → Line → (ℕ → ℕ → ℤ) → (ℕ → ℤ) → ℕ → List Input
inputs_as q n l word carry i =
    taken_input ((gates q).taken n l.amount i) (word l.first)
    ∷ (other_inputs q l word i ++ carry_inputs (gates q).carries carry i)
