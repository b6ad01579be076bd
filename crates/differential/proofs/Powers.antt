-- Powers, and products of the values at the numbers below a bound.
use mathlib.Core.Path.{◌≡◌, refl, sym, ap, ap₂, ◌∙◌}
use Prim.Native.Nat.{ℕ, zero, suc, ◌*◌, ◌^◌, ◌<◌, ◌≤◌}
use native.Mathlib.Nat.{lt_irrefl, lt_of_le_of_lt, lt_of_lt_of_le, mul-le-mul}
use native.Mathlib.Nat.{mul-mul-mul_comm, mul-suc, mul-zero, pow-suc, pow-zero, zero-mul}
use native.Mathlib.Decide.{dec_lt}
use native.Mathlib.Omega.{arith}
use lib.Pow.{pow-add, pow-lt, pow_mono}
use Rattle.words.specs.Below.{total}
use Rattle.words.proofs.Below.{below_suc}
use Rattle.differential.specs.Product.{product}

-- ---- powers

pub one_pow : (k : ℕ) → 1 ^ k ≡ 1
one_pow zero = refl
one_pow (suc k) = pow-suc 1 k ∙ ap (λ (z : ℕ). z * 1) (one_pow k)

pub mul_pow : (a b k : ℕ) → (a * b) ^ k ≡ a ^ k * b ^ k
mul_pow a b zero = rw (pow-zero (a * b), pow-zero a, pow-zero b)
mul_pow a b (suc k) =
    pow-suc (a * b) k
    ∙ ap (λ (z : ℕ). z * (a * b)) (mul_pow a b k)
    ∙ mul-mul-mul_comm (a ^ k) (b ^ k) a b
    ∙ sym (ap₂ ◌*◌ (pow-suc a k) (pow-suc b k))

pub pow_mul : (a m n : ℕ) → a ^ (m * n) ≡ (a ^ m) ^ n
pow_mul a m zero = ap (λ (z : ℕ). a ^ z) (mul-zero m) ∙ pow-zero a ∙ sym (pow-zero (a ^ m))
pow_mul a m (suc n) =
    ap (λ (z : ℕ). a ^ z) (mul-suc m n)
    ∙ pow-add a (m * n) m
    ∙ ap (λ (z : ℕ). z * a ^ m) (pow_mul a m n)
    ∙ sym (pow-suc (a ^ m) n)

pub exponent_lt : (i j : ℕ) → 2 ^ i < 2 ^ j → i < j
exponent_lt i j h =
    elim (dec_lt i j) [ yes l ↦ l | no d ↦ absurd (lt_irrefl (2 ^ i) (lt_of_lt_of_le h (pow_mono (omega arith)))) ]

pub exponent_le : (i j : ℕ) → 2 ^ i ≤ 2 ^ j → i ≤ j
exponent_le i j h = omega (arith, exponent_lt i (suc j) (lt_of_le_of_lt h (pow-lt (omega arith))))

pub lt_pow : (n : ℕ) → n < 2 ^ n
lt_pow zero = omega arith
lt_pow (suc n) = omega (arith, lt_pow n, pow-suc 2 n)

-- ---- products

pub product_cong : (b : ℕ) (f g : ℕ → ℕ) → ((k : ℕ) → k < b → f k ≡ g k) → product b f ≡ product b g
unfolding product
product_cong zero f g h = refl
product_cong (suc b) f g h = ap₂ ◌*◌ (product_cong b f g (λ k l. h k (omega arith))) (h b (omega arith))

pub product_le : (b : ℕ) (f g : ℕ → ℕ) → ((k : ℕ) → k < b → f k ≤ g k) → product b f ≤ product b g
unfolding product
product_le zero f g h = omega arith
product_le (suc b) f g h = mul-le-mul (product_le b f g (λ k l. h k (omega arith))) (h b (omega arith))

-- a product that is not 0 has no factor 0
pub left_pos : (x y : ℕ) → 0 < x * y → 0 < x
left_pos zero y h = absurd (omega (arith, zero-mul y))
left_pos (suc x) y h = omega arith

pub right_pos : (x y : ℕ) → 0 < x * y → 0 < y
right_pos x zero h = absurd (omega (arith, mul-zero x))
right_pos x (suc y) h = omega arith

pub factors_pos : (b : ℕ) (f : ℕ → ℕ) → 0 < product b f → (k : ℕ) → k < b → 0 < f k
unfolding product
factors_pos zero f h k l = absurd (omega arith)
factors_pos (suc b) f h k l =
    below_suc (λ k. 0 < f k) b (factors_pos b f (left_pos (product b f) (f b) h)) (right_pos (product b f) (f b) h) k l

pub product_pow : (b : ℕ) (f : ℕ → ℕ) (q : ℕ) → product b f ^ q ≡ product b (λ k. f k ^ q)
unfolding product
product_pow zero f q = one_pow q
product_pow (suc b) f q = mul_pow (product b f) (f b) q ∙ ap (λ (z : ℕ). z * f b ^ q) (product_pow b f q)

pub pow_total : (b : ℕ) (f : ℕ → ℕ) → 2 ^ total b f ≡ product b (λ k. 2 ^ f k)
unfolding product total
pow_total zero f = refl
pow_total (suc b) f = pow-add 2 (total b f) (f b) ∙ ap (λ (z : ℕ). z * 2 ^ f b) (pow_total b f)
