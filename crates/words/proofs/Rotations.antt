-- Rotations of a word of n bits: where each bit goes.
use mathlib.Core.Path.{◌≡◌, sym, ap, ap₂, subst, ◌∙◌}
use mathlib.Core.Bool.{xor}
use Prim.Native.Nat.{ℕ, ◌+◌, ◌*◌, ◌-◌, ◌/◌, ◌%◌, ◌^◌, ◌<◌}
use native.Mathlib.Decide.{dec_lt}
use native.Mathlib.Nat.{add_comm, add-mod_right, add-zero, mod-eq_of_lt, mod-lt, mul-mod_left}
use native.Mathlib.Omega.{arith}
use lib.Arith.{digits_lt}
use lib.Bits.{bit_or, bit_xor, or_shifted, xor_lt}
use lib.Pow.{high, low, mod-pow-add, pow-add, pow_pos, shl-shr, shr_lt}
use Rattle.words.specs.Words.{bit, rotate_left, rotate_right}
use Rattle.words.proofs.Bits.{bit_mod, bit_shift, bit-xor, word_ext}

-- what is shifted up and cut at n: the lower bits, above r zeros
shifted_cut : (n r x : ℕ) → r < n → x * 2 ^ r % 2 ^ n ≡ x % 2 ^ (n - r) * 2 ^ r
shifted_cut n r x h =
    ap (λ (z : ℕ). x * 2 ^ r % 2 ^ z) parts
    ∙ mod-pow-add (x * 2 ^ r) (n - r) r
    ∙ ap₂ (λ (u v : ℕ). u % 2 ^ (n - r) * 2 ^ r + v) (shl-shr x r) (mul-mod_left x (2 ^ r))
    ∙ add-zero (x % 2 ^ (n - r) * 2 ^ r)
  where
    parts : n ≡ n - r + r
    parts = omega arith

-- the bits that leave at the top fill r places
leaving_lt : (n r x : ℕ) → r < n → x < 2 ^ n → x / 2 ^ (n - r) < 2 ^ r
leaving_lt n r x h hx = shr_lt r (n - r) (subst (λ (z : ℕ). x < 2 ^ z) parts hx)
  where
    parts : n ≡ r + (n - r)
    parts = omega arith

-- the lower bits above the bits that left
rotate_left_parts : (n r x : ℕ) → r < n → rotate_left n r x ≡ x % 2 ^ (n - r) * 2 ^ r + x / 2 ^ (n - r)
unfolding rotate_left
rotate_left_parts n r x h = ap (λ (z : ℕ). z + x / 2 ^ (n - r)) (shifted_cut n r x h)

-- the two parts share no bit, so that OR joins them
pub or_rotate_left : (n r x : ℕ) → r < n → x < 2 ^ n → bit_or (x * 2 ^ r % 2 ^ n) (x / 2 ^ (n - r)) ≡ rotate_left n r x
or_rotate_left n r x h hx =
    ap (λ (z : ℕ). bit_or z (x / 2 ^ (n - r))) (shifted_cut n r x h)
    ∙ or_shifted (x % 2 ^ (n - r)) r (x / 2 ^ (n - r)) (leaving_lt n r x h hx)
    ∙ sym (rotate_left_parts n r x h)

pub rotate_left_lt : (n r x : ℕ) → r < n → x < 2 ^ n → rotate_left n r x < 2 ^ n
rotate_left_lt n r x h hx =
    rw (rotate_left_parts n r x h)
    (subst (λ (z : ℕ). x % 2 ^ (n - r) * 2 ^ r + x / 2 ^ (n - r) < z) whole
    (digits_lt (mod-lt x (pow_pos (n - r))) (leaving_lt n r x h hx)))
  where
    whole : 2 ^ (n - r) * 2 ^ r ≡ 2 ^ n
    whole = sym (pow-add 2 (n - r) r) ∙ ap (λ (z : ℕ). 2 ^ z) (omega arith)

pub bit_rotate_left : (n r x i : ℕ) → r < n → x < 2 ^ n → i < n → bit (rotate_left n r x) i ≡ bit x ((i + (n - r)) % n)
bit_rotate_left n r x i h hx hi = ap (λ (z : ℕ). bit z i) (rotate_left_parts n r x h) ∙ at (dec_lt i r)
  where
    lower : ℕ
    lower = x % 2 ^ (n - r)

    left : ℕ
    left = x / 2 ^ (n - r)

    at : Dec (i < r) → bit (lower * 2 ^ r + left) i ≡ bit x ((i + (n - r)) % n)
    at (yes k) =
        sym (bit_mod (lower * 2 ^ r + left) r i k)
        ∙ ap (λ (z : ℕ). bit z i) (low lower r (leaving_lt n r x h hx))
        ∙ bit_shift x (n - r) i
        ∙ ap (bit x) (add_comm (n - r) i ∙ sym (mod-eq_of_lt (omega arith)))
    at (no k) =
        ap (bit (lower * 2 ^ r + left)) above
        ∙ sym (bit_shift (lower * 2 ^ r + left) r (i - r))
        ∙ ap (λ (z : ℕ). bit z (i - r)) (high lower r (leaving_lt n r x h hx))
        ∙ bit_mod x (n - r) (i - r) (omega arith)
        ∙ ap (bit x) (sym (ap (λ (z : ℕ). z % n) around ∙ add-mod_right (i - r) n ∙ mod-eq_of_lt (omega arith)))
      where
        above : i ≡ r + (i - r)
        above = omega arith

        around : i + (n - r) ≡ i - r + n
        around = omega arith

-- a rotation of an XOR is the XOR of the rotations
pub rotate_left_xor : (n r x u : ℕ) → r < n → x < 2 ^ n → u < 2 ^ n
    → rotate_left n r (bit_xor x u) ≡ bit_xor (rotate_left n r x) (rotate_left n r u)
rotate_left_xor n r x u h hx hu =
    word_ext n (rotate_left n r (bit_xor x u)) (bit_xor (rotate_left n r x) (rotate_left n r u))
    (rotate_left_lt n r (bit_xor x u) h both)
    (xor_lt n (rotate_left n r x) (rotate_left n r u) (rotate_left_lt n r x h hx) (rotate_left_lt n r u h hu))
    (λ i l.
    bit_rotate_left n r (bit_xor x u) i h both l
    ∙ bit-xor x u ((i + (n - r)) % n)
    ∙ sym (bit-xor (rotate_left n r x) (rotate_left n r u) i ∙ ap₂ xor (bit_rotate_left n r x i h hx l) (bit_rotate_left n r u i h hu l)))
  where
    both : bit_xor x u < 2 ^ n
    both = xor_lt n x u hx hu

-- to the right by r is to the left by n - r
pub rotate_right_left : (n r x : ℕ) → r < n → rotate_right n r x ≡ rotate_left n (n - r) x
unfolding rotate_left rotate_right
rotate_right_left n r x h =
    add_comm (x / 2 ^ r) (x * 2 ^ (n - r) % 2 ^ n)
    ∙ ap (λ (z : ℕ). x * 2 ^ (n - r) % 2 ^ n + x / 2 ^ z) (omega arith)

pub rotate_right_lt : (n r x : ℕ) → 0 < r → r < n → x < 2 ^ n → rotate_right n r x < 2 ^ n
rotate_right_lt n r x hr h hx = rw (rotate_right_left n r x h) (rotate_left_lt n (n - r) x (omega arith) hx)

pub bit_rotate_right : (n r x i : ℕ) → 0 < r → r < n → x < 2 ^ n → i < n → bit (rotate_right n r x) i ≡ bit x ((i + r) % n)
bit_rotate_right n r x i hr h hx hi =
    ap (λ (z : ℕ). bit z i) (rotate_right_left n r x h)
    ∙ bit_rotate_left n (n - r) x i (omega arith) hx hi
    ∙ ap (λ (z : ℕ). bit x ((i + z) % n)) (omega arith)

pub rotate_right_xor : (n r x u : ℕ) → 0 < r → r < n → x < 2 ^ n → u < 2 ^ n
    → rotate_right n r (bit_xor x u) ≡ bit_xor (rotate_right n r x) (rotate_right n r u)
rotate_right_xor n r x u hr h hx hu =
    rw (rotate_right_left n r (bit_xor x u) h, rotate_right_left n r x h, rotate_right_left n r u h)
    (rotate_left_xor n (n - r) x u (omega arith) hx hu)
