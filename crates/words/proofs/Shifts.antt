-- Shifts of a word of n bits: where each bit goes.
use mathlib.Core.Path.{◌≡◌, sym, ap₂, ◌∙◌}
use mathlib.Core.Bool.{xor}
use Prim.Native.Nat.{ℕ, ◌+◌, ◌*◌, ◌^◌, ◌<◌}
use native.Mathlib.Nat.{mod-lt}
use native.Mathlib.Omega.{arith}
use lib.Bits.{bit_xor, xor_lt}
use lib.Pow.{pow_pos, shr_le}
use Rattle.words.specs.Words.{bit, bit_below, shift_left, shift_right}
use Rattle.words.proofs.Bits.{bit_shift, bit_shl, bit-xor, bit_below_xor, word_ext}

pub shift_left_lt : (n r x : ℕ) → shift_left n r x < 2 ^ n
unfolding shift_left
shift_left_lt n r x = mod-lt (x * 2 ^ r) (pow_pos n)

pub shift_right_lt : (n r x : ℕ) → x < 2 ^ n → shift_right r x < 2 ^ n
unfolding shift_right
shift_right_lt n r x h = omega (arith, shr_le x r)

-- to the left: the bit r places below, 0 where there is none
pub bit_shift_left : (n r x i : ℕ) → i < n → bit (shift_left n r x) i ≡ bit_below r x i
unfolding shift_left
bit_shift_left n r x i h = bit_shl n r x i h

-- to the right: the bit r places above
pub bit_shift_right : (r x i : ℕ) → bit (shift_right r x) i ≡ bit x (r + i)
unfolding shift_right
bit_shift_right r x i = bit_shift x r i

-- a shift of an XOR is the XOR of the shifts
pub shift_left_xor : (n r x u : ℕ) → shift_left n r (bit_xor x u) ≡ bit_xor (shift_left n r x) (shift_left n r u)
shift_left_xor n r x u =
    word_ext n (shift_left n r (bit_xor x u)) (bit_xor (shift_left n r x) (shift_left n r u))
    (shift_left_lt n r (bit_xor x u))
    (xor_lt n (shift_left n r x) (shift_left n r u) (shift_left_lt n r x) (shift_left_lt n r u))
    (λ i l.
    bit_shift_left n r (bit_xor x u) i l
    ∙ bit_below_xor r x u i
    ∙ sym (bit-xor (shift_left n r x) (shift_left n r u) i ∙ ap₂ xor (bit_shift_left n r x i l) (bit_shift_left n r u i l)))

pub shift_right_xor : (n r x u : ℕ) → x < 2 ^ n → u < 2 ^ n → shift_right r (bit_xor x u) ≡ bit_xor (shift_right r x) (shift_right r u)
shift_right_xor n r x u hx hu =
    word_ext n (shift_right r (bit_xor x u)) (bit_xor (shift_right r x) (shift_right r u))
    (shift_right_lt n r (bit_xor x u) (xor_lt n x u hx hu))
    (xor_lt n (shift_right r x) (shift_right r u) (shift_right_lt n r x hx) (shift_right_lt n r u hu))
    (λ i l.
    bit_shift_right r (bit_xor x u) i
    ∙ bit-xor x u (r + i)
    ∙ sym (bit-xor (shift_right r x) (shift_right r u) i ∙ ap₂ xor (bit_shift_right r x i) (bit_shift_right r u i)))
