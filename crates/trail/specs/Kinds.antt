-- The kinds of lines (document 01, "The sheet"; document 02, W-201), by a kind's number.
use Rattle.std.specs.Prelude.{ℕ, Bool, true, false, cond, eqb}
use Rattle.std.specs.Int.Bits.{bit_xor}
use Rattle.words.specs.Words.{sum_modulo, minus_modulo, rotate_left, rotate_right, shift_left, shift_right}
use Rattle.trail.specs.declared.Line.{Line}

pub data Kind : Type 0 where
  xorWords xorConstant rotatesLeft rotatesRight addWords addConstant shiftsLeft shiftsRight subtractWords unknown : Kind

-- 1 XOR of two words; 2 XOR with the constant; 3 rotate left by the amount; 4 rotate right; 5 add two words; 6 add the constant;
-- 7 shift left by the amount; 8 shift right; 9 first word minus second. No other number is a kind.
unfoldable pub kind_of : ℕ → Kind
kind_of k =
    cond (eqb k 1) xorWords
    (cond (eqb k 2) xorConstant
    (cond (eqb k 3) rotatesLeft
    (cond (eqb k 4) rotatesRight
    (cond (eqb k 5) addWords
    (cond (eqb k 6) addConstant
    (cond (eqb k 7) shiftsLeft
    (cond (eqb k 8) shiftsRight
    (cond (eqb k 9) subtractWords
    unknown))))))))

-- What a kind says of its lines: which fields they use beside the first operand, whether the operands must name different words,
-- and the word of width n that a line makes from its operands' words x and y.
pub record Row : Type 0 where
  pub second : Bool
  pub amount : Bool
  pub constant : Bool
  pub distinct : Bool
  pub word : ℕ → Line → ℕ → ℕ → ℕ

-- Kinds 2, 3, 4 and 6 use the first operand only, and so do 7 and 8. An unknown kind uses nothing and makes no word, written 0.
abbrev pub row : Kind → Row
row xorWords = record { second = true; amount = false; constant = false; distinct = false; word = λ n l x y. bit_xor x y }
row xorConstant = record { second = false; amount = false; constant = true; distinct = false; word = λ n l x y. bit_xor x l.constant }
row rotatesLeft = record { second = false; amount = true; constant = false; distinct = false; word = λ n l x y. rotate_left n l.amount x }
row rotatesRight = record { second = false; amount = true; constant = false; distinct = false; word = λ n l x y. rotate_right n l.amount x }
row addWords = record { second = true; amount = false; constant = false; distinct = true; word = λ n l x y. sum_modulo n x y }
row addConstant = record { second = false; amount = false; constant = true; distinct = false; word = λ n l x y. sum_modulo n x l.constant }
row shiftsLeft = record { second = false; amount = true; constant = false; distinct = false; word = λ n l x y. shift_left n l.amount x }
row shiftsRight = record { second = false; amount = true; constant = false; distinct = false; word = λ n l x y. shift_right l.amount x }
row subtractWords = record { second = true; amount = false; constant = false; distinct = true; word = λ n l x y. minus_modulo n x y }
row unknown = record { second = false; amount = false; constant = false; distinct = false; word = λ n l x y. 0 }

abbrev pub uses_second : Kind → Bool
uses_second q = (row q).second

abbrev pub uses_amount : Kind → Bool
uses_amount q = (row q).amount

abbrev pub uses_constant : Kind → Bool
uses_constant q = (row q).constant

abbrev pub wants_distinct : Kind → Bool
wants_distinct q = (row q).distinct

abbrev pub makes_as : Kind → ℕ → Line → ℕ → ℕ → ℕ
makes_as q = (row q).word

unfoldable pub makes : ℕ → Line → ℕ → ℕ → ℕ
makes n l x y = makes_as (kind_of l.kind) n l x y
