-- The word that a line makes, by the line's kind.
use mathlib.Core.Path.{◌≡◌, refl, ap}
use Prim.Native.Nat.{ℕ, ◌^◌, ◌<◌}
use lib.Bits.{xor_lt}
use lib.Pow.{pow_pos}
use Rattle.words.proofs.Rotations.{rotate_left_lt, rotate_right_lt}
use Rattle.words.proofs.Shifts.{shift_left_lt, shift_right_lt}
use Rattle.words.proofs.Subtraction.{minus_modulo_lt}
use Rattle.words.proofs.Sums.{sum_modulo_lt}
use Rattle.trail.specs.declared.Line.{Line}
use Rattle.trail.specs.Kinds.{Kind, kind_of, uses_amount, uses_constant, makes_as, makes}
use Rattle.trail.specs.Kinds.Kind.{xorWords, xorConstant, rotatesLeft, rotatesRight, addWords, addConstant, shiftsLeft, shiftsRight, subtractWords, unknown}
use Rattle.trail.specs.WellFormed.{WellFormedLine}

pub makes_as_lem : (q : Kind) (n : ℕ) (l : Line) (x y : ℕ) → kind_of l.kind ≡ q → makes n l x y ≡ makes_as q n l x y
unfolding makes
makes_as_lem q n l x y e = ap (λ (z : Kind). makes_as z n l x y) e

-- a well-formed line makes words of words
pub makes_word : {n j : ℕ} {l : Line} → WellFormedLine n j l → (x y : ℕ) → x < 2 ^ n → y < 2 ^ n → makes n l x y < 2 ^ n
unfolding makes
makes_word {n} {j} {l} w x y hx hy = at (kind_of l.kind) refl
  where
    at : (q : Kind) → kind_of l.kind ≡ q → makes_as q n l x y < 2 ^ n
    at xorWords e = xor_lt n x y hx hy
    at xorConstant e = xor_lt n x l.constant hx (w.constant_word (ap uses_constant e))
    at rotatesLeft e = rotate_left_lt n l.amount x (w.amount_most (ap uses_amount e)) hx
    at rotatesRight e = rotate_right_lt n l.amount x (w.amount_least (ap uses_amount e)) (w.amount_most (ap uses_amount e)) hx
    at addWords e = sum_modulo_lt n x y
    at addConstant e = sum_modulo_lt n x l.constant
    at shiftsLeft e = shift_left_lt n l.amount x
    at shiftsRight e = shift_right_lt n l.amount x hx
    at subtractWords e = minus_modulo_lt n _ _
    at unknown e = pow_pos n
