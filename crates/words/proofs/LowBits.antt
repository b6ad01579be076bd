-- Words from the low end: `low b x` is the number whose lowest bit is b and whose other bits are x's. By these laws sums, XORs,
-- remainders, equality and counts go through one bit after the other.
use mathlib.Core.Path.{◌≡◌, refl, sym, ap, ap₂, ◌∙◌}
use Prim.Native.Nat.{ℕ, zero, suc, ◌+◌, ◌*◌, ◌/◌, ◌%◌, ◌^◌}
use mathlib.Core.Bool.{Bool, true, false, not, ◌&&◌, xor}
use native.Mathlib.Omega.{arith}
use native.Mathlib.Nat.{pow-suc}
use borrow.Author.Tests.{eqb-true, eq-eqb, ne_eqb}
use lib.Dec.{eqb}
use lib.Bits.{bit_xor, xor_step, differ}
use lib.Arith.{mod-mul}
use lib.Pow.{pow_pos}
use Rattle.words.specs.Words.{value, bit, majority}
use Rattle.words.specs.Below.{count, total}
use Rattle.words.proofs.TruthTables.{same_test}
use Rattle.words.proofs.Bits.{value_inj, bit_zero, bit_suc}

unfoldable pub low : Bool → ℕ → ℕ
low b x = x * 2 + value b

pub low_bit : (x : ℕ) → low (bit x 0) (x / 2) ≡ x
unfolding low
low_bit x = omega (arith, bit_zero x)

pub low_half : (b : Bool) (x : ℕ) → low b x / 2 ≡ x
unfolding low
low_half true x = omega arith
low_half false x = omega arith

low_mod2 : (b : Bool) (x : ℕ) → low b x % 2 ≡ value b
unfolding low
low_mod2 true x = omega arith
low_mod2 false x = omega arith

pub bit_low_zero : (b : Bool) (x : ℕ) → bit (low b x) 0 ≡ b
bit_low_zero b x = value_inj (bit (low b x) 0) b (bit_zero (low b x) ∙ low_mod2 b x)

pub bit_low_suc : (b : Bool) (x i : ℕ) → bit (low b x) (suc i) ≡ bit x i
bit_low_suc b x i = bit_suc (low b x) i ∙ ap (λ (z : ℕ). bit z i) (low_half b x)

-- ---- sums, XORs and remainders

pub add_low : (x a c : Bool) (X A : ℕ) → low x X + low a A + value c ≡ low (xor (xor x a) c) (X + A + value (majority x a c))
unfolding low xor
add_low true true true X A = omega arith
add_low true true false X A = omega arith
add_low true false true X A = omega arith
add_low true false false X A = omega arith
add_low false true true X A = omega arith
add_low false true false X A = omega arith
add_low false false true X A = omega arith
add_low false false false X A = omega arith

differ_value : (a b : Bool) → differ (value a) (value b) ≡ value (xor a b)
unfolding xor
differ_value true true = refl
differ_value true false = refl
differ_value false true = refl
differ_value false false = refl

pub xor_low : (x u : Bool) (X U : ℕ) → bit_xor (low x X) (low u U) ≡ low (xor x u) (bit_xor X U)
unfolding low
xor_low x u X U =
    xor_step (low x X) (low u U)
    ∙ ap₂ (λ (p q : ℕ). p * 2 + q) (ap₂ bit_xor (low_half x X) (low_half u U)) (ap₂ differ (low_mod2 x X) (low_mod2 u U) ∙ differ_value x u)

pub mod_low : (b : Bool) (x n : ℕ) → low b x % 2 ^ suc n ≡ low b (x % 2 ^ n)
unfolding low
mod_low b x n =
    ap (λ (m : ℕ). low b x % m) (pow-suc 2 n)
    ∙ mod-mul (low b x) (pow_pos n) (omega arith)
    ∙ ap₂ (λ (p q : ℕ). p % 2 ^ n * 2 + q) (low_half b x) (low_mod2 b x)

pub add_low_mod : (n : ℕ) (x a c : Bool) (X A : ℕ)
    → (low x X + low a A + value c) % 2 ^ suc n ≡ low (xor (xor x a) c) ((X + A + value (majority x a c)) % 2 ^ n)
add_low_mod n x a c X A = ap (λ (s : ℕ). s % 2 ^ suc n) (add_low x a c X A) ∙ mod_low (xor (xor x a) c) (X + A + value (majority x a c)) n

-- ---- equality

equal_bits : (k x y : ℕ) → eqb (x * 2 + k) (y * 2 + k) ≡ eqb x y
equal_bits k x y =
    same_test (eqb (x * 2 + k) (y * 2 + k)) (eqb x y)
    (λ t. eq-eqb x y (halves (eqb-true (x * 2 + k) (y * 2 + k) t)))
    (λ t. eq-eqb (x * 2 + k) (y * 2 + k) (ap (λ (z : ℕ). z * 2 + k) (eqb-true x y t)))
  where
    halves : x * 2 + k ≡ y * 2 + k → x ≡ y
    halves e = omega arith

pub eqb_low : (b c : Bool) (x y : ℕ) → eqb (low b x) (low c y) ≡ (not (xor b c) && eqb x y)
unfolding low xor
eqb_low true true x y = equal_bits 1 x y
eqb_low false false x y = equal_bits 0 x y
eqb_low true false x y = ne_eqb (low true x) (low false y) (λ e. omega arith)
eqb_low false true x y = ne_eqb (low false x) (low true y) (λ e. omega arith)

-- ---- counts and sums over a range of words

total_double : (b : ℕ) (f : ℕ → ℕ) → total (b * 2) f ≡ total b (λ x. f (low false x)) + total b (λ x. f (low true x))
unfolding total low
total_double zero f = refl
total_double (suc b) f = ap (λ (z : ℕ). total z f) twice ∙ omega (arith, total_double b f, ap f even, ap f odd)
  where
    twice : suc b * 2 ≡ suc (suc (b * 2))
    twice = omega arith

    even : b * 2 + 0 ≡ b * 2
    even = omega arith

    odd : b * 2 + 1 ≡ suc (b * 2)
    odd = omega arith

pub total_low : (n : ℕ) (f : ℕ → ℕ) → total (2 ^ suc n) f ≡ total (2 ^ n) (λ x. f (low false x)) + total (2 ^ n) (λ x. f (low true x))
total_low n f = ap (λ (z : ℕ). total z f) (pow-suc 2 n) ∙ total_double (2 ^ n) f

-- a count is a sum of ones
pub count_total : (b : ℕ) (p : ℕ → Bool) → count b p ≡ total b (λ x. value (p x))
unfolding count total
count_total zero p = refl
count_total (suc b) p = ap (λ (z : ℕ). z + value (p b)) (count_total b p)

pub count_low : (n : ℕ) (p : ℕ → Bool) → count (2 ^ suc n) p ≡ count (2 ^ n) (λ x. p (low false x)) + count (2 ^ n) (λ x. p (low true x))
count_low n p =
    count_total (2 ^ suc n) p
    ∙ total_low n (λ x. value (p x))
    ∙ sym (ap₂ ◌+◌ (count_total (2 ^ n) (λ x. p (low false x))) (count_total (2 ^ n) (λ x. p (low true x))))
