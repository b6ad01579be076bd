-- Sums of words, bit by bit, and their carries.
use mathlib.Core.Path.{◌≡◌, refl, sym, ap, ◌∙◌}
use mathlib.Core.Bool.{Bool, true, false, xor}
use Prim.Native.Nat.{ℕ, suc, ◌+◌, ◌*◌, ◌-◌, ◌/◌, ◌%◌, ◌^◌, ◌<◌}
use native.Mathlib.Nat.{mod-lt}
use native.Mathlib.Omega.{arith}
use borrow.Author.Tests.{leb-true, leb-false, lt-leb}
use lib.Dec.{leb}
use lib.Pow.{high, pow_pos, shr-shr, split}
use Rattle.words.specs.Words.{value, bit, sum_modulo, carry_into, majority}
use Rattle.words.proofs.Bits.{value_bit, value_inj, bit_mod}

pub sum_modulo_lt : (n x y : ℕ) → sum_modulo n x y < 2 ^ n
unfolding sum_modulo
sum_modulo_lt n x y = mod-lt (x + y) (pow_pos n)

-- no carry comes into the lowest bit
pub carry_zero : (x y : ℕ) → carry_into x y 0 ≡ false
unfolding carry_into
carry_zero x y = lt-leb 1 (x % 1 + y % 1) (omega arith)

-- the sum's bits from i on: those of the summands, and the carry
pub shift_sum : (x y i : ℕ) → (x + y) / 2 ^ i ≡ x / 2 ^ i + y / 2 ^ i + value (carry_into x y i)
unfolding carry_into
shift_sum x y i = at (leb p (x % p + y % p)) refl
  where
    p : ℕ
    p = 2 ^ i

    at : (c : Bool) → leb p (x % p + y % p) ≡ c → (x + y) / p ≡ x / p + y / p + value c
    at true h =
        ap (λ (z : ℕ). z / p) parts
        ∙ high (x / p + y / p + 1) i {lo = x % p + y % p - p} (omega (arith, mod-lt x (pow_pos i), mod-lt y (pow_pos i)))
      where
        parts : x + y ≡ (x / p + y / p + 1) * p + (x % p + y % p - p)
        parts = omega (arith, leb-true p (x % p + y % p) h, split x i, split y i)
    at false h = ap (λ (z : ℕ). z / p) parts ∙ high (x / p + y / p + 0) i {lo = x % p + y % p} (leb-false p (x % p + y % p) h)
      where
        parts : x + y ≡ (x / p + y / p + 0) * p + (x % p + y % p)
        parts = omega (arith, split x i, split y i)

-- a full adder: the lowest bit of u + v + c, and what is above it
adder : (a b c : Bool) (u v : ℕ) → value a ≡ u % 2 → value b ≡ v % 2
    → (value (xor a (xor b c)) ≡ (u + v + value c) % 2) × ((u + v + value c) / 2 ≡ u / 2 + v / 2 + value (majority a b c))
unfolding xor
adder false false false u v p q = (omega arith, omega arith)
adder false false true u v p q = (omega arith, omega arith)
adder false true false u v p q = (omega arith, omega arith)
adder false true true u v p q = (omega arith, omega arith)
adder true false false u v p q = (omega arith, omega arith)
adder true false true u v p q = (omega arith, omega arith)
adder true true false u v p q = (omega arith, omega arith)
adder true true true u v p q = (omega arith, omega arith)

-- the adder at bit i
adder_at : (x y i : ℕ)
    → (value (xor (bit x i) (xor (bit y i) (carry_into x y i))) ≡ (x + y) / 2 ^ i % 2)
    × ((x + y) / 2 ^ i / 2 ≡ x / 2 ^ i / 2 + y / 2 ^ i / 2 + value (majority (bit x i) (bit y i) (carry_into x y i)))
adder_at x y i =
    rw (shift_sum x y i) (adder (bit x i) (bit y i) (carry_into x y i) (x / 2 ^ i) (y / 2 ^ i) (value_bit x i) (value_bit y i))

shift_suc : (x i : ℕ) → x / 2 ^ suc i ≡ x / 2 ^ i / 2
shift_suc x i = sym (shr-shr x i 1 ∙ ap (λ (z : ℕ). x / 2 ^ z) (omega arith))

-- a carry goes on where two or more of the bits and the carry are 1
pub carry_suc : (x y i : ℕ) → carry_into x y (suc i) ≡ majority (bit x i) (bit y i) (carry_into x y i)
carry_suc x y i =
    value_inj (carry_into x y (suc i)) (majority (bit x i) (bit y i) (carry_into x y i))
    (omega (arith, shift_sum x y (suc i), shift_suc x i, shift_suc y i, shift_suc (x + y) i, (adder_at x y i).1))

pub bit_sum : (x y i : ℕ) → bit (x + y) i ≡ xor (bit x i) (xor (bit y i) (carry_into x y i))
bit_sum x y i =
    value_inj (bit (x + y) i) (xor (bit x i) (xor (bit y i) (carry_into x y i))) (value_bit (x + y) i ∙ sym (adder_at x y i).0)

pub bit_sum_modulo : (n x y i : ℕ) → i < n → bit (sum_modulo n x y) i ≡ xor (bit x i) (xor (bit y i) (carry_into x y i))
unfolding sum_modulo
bit_sum_modulo n x y i h = bit_mod (x + y) n i h ∙ bit_sum x y i
