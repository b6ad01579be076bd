-- One word minus another: the sum that turns it back, and that sum's carries, which are the subtraction's borrows.
use mathlib.Core.Path.{◌≡◌, refl, sym, ap, ◌∙◌}
use mathlib.Core.Bool.{Bool, true, false}
use Prim.Native.Nat.{ℕ, ◌+◌, ◌-◌, ◌*◌, ◌/◌, ◌%◌, ◌^◌, ◌≤◌, ◌<◌}
use native.Mathlib.Nat.{mod-lt, mod-eq_of_lt, mod-eq-sub-mod, mod-add-mod, add-mod, add-mul-mod_self_right}
use native.Mathlib.Omega.{arith}
use borrow.Author.Tests.{leb-true, leb-false, lt-ltb, le-ltb}
use lib.Dec.{leb, ltb}
use lib.Pow.{mod-mod-pow, pow_pos, split}
use Rattle.words.specs.Words.{sum_modulo, minus_modulo, carry_into, borrow_into}

pub minus_modulo_lt : (n x y : ℕ) → minus_modulo n x y < 2 ^ n
unfolding minus_modulo
minus_modulo_lt n x y = mod-lt (x + (2 ^ n - y % 2 ^ n)) (pow_pos n)

-- the words that add up with y to x, modulo 2 ^ n, are just one
pub minus_unique : (n x y z : ℕ) → z < 2 ^ n → (z + y) % 2 ^ n ≡ x % 2 ^ n → z ≡ minus_modulo n x y
unfolding minus_modulo
minus_unique n x y z hz e =
    sym
    (sym (mod-add-mod x p c)
    ∙ ap (λ (w : ℕ). (w + c) % p) (sym e)
    ∙ mod-add-mod (z + y) p c
    ∙ ap (λ (w : ℕ). w % p) whole
    ∙ add-mul-mod_self_right z (y / p + 1) p
    ∙ mod-eq_of_lt hz)
  where
    p : ℕ
    p = 2 ^ n

    c : ℕ
    c = p - y % p

    whole : z + y + c ≡ z + (y / p + 1) * p
    whole = omega (arith, split y n, mod-lt y (pow_pos n))

-- the result and the second word add up to the first
pub minus_sum : (n x y : ℕ) → (minus_modulo n x y + y) % 2 ^ n ≡ x % 2 ^ n
unfolding minus_modulo
minus_sum n x y =
    mod-add-mod (x + c) p y
    ∙ ap (λ (w : ℕ). w % p) whole
    ∙ add-mul-mod_self_right x (y / p + 1) p
  where
    p : ℕ
    p = 2 ^ n

    c : ℕ
    c = p - y % p

    whole : x + c + y ≡ x + (y / p + 1) * p
    whole = omega (arith, split y n, mod-lt y (pow_pos n))

pub minus_back : (n x y : ℕ) → x < 2 ^ n → sum_modulo n (minus_modulo n x y) y ≡ x
unfolding sum_modulo
minus_back n x y h = minus_sum n x y ∙ mod-eq_of_lt h

pub sum_back : (n x y : ℕ) → x < 2 ^ n → minus_modulo n (sum_modulo n x y) y ≡ x
unfolding sum_modulo
sum_back n x y h = sym (minus_unique n ((x + y) % 2 ^ n) y x h (sym (mod-eq_of_lt (mod-lt (x + y) (pow_pos n)))))

-- the low i bits, also of a number that has lost those from n on
mod_lower : (n i z : ℕ) → i ≤ n → z % 2 ^ n % 2 ^ i ≡ z % 2 ^ i
mod_lower n i z h = ap (λ (w : ℕ). z % 2 ^ w % 2 ^ i) (omega arith) ∙ mod-mod-pow z (n - i) i

-- a result that wrapped at w bits, cut at n
pub minus_wrapped : (w n x y r : ℕ) → n ≤ w → (r + y) % 2 ^ w ≡ x → r % 2 ^ n ≡ minus_modulo n x y
minus_wrapped w n x y r h e =
    minus_unique n x y (r % 2 ^ n) (mod-lt r (pow_pos n))
    (mod-add-mod r (2 ^ n) y ∙ sym (mod_lower w n (r + y) h) ∙ ap (λ (z : ℕ). z % 2 ^ n) e)

-- the first word's low i bits are those of a sum of low bits
low_minus : (n x y i : ℕ) → i ≤ n
    → (minus_modulo n x y % 2 ^ i + y % 2 ^ i) % 2 ^ i ≡ x % 2 ^ i
low_minus n x y i h =
    sym (add-mod (minus_modulo n x y) y (2 ^ i))
    ∙ sym (mod_lower n i (minus_modulo n x y + y) h)
    ∙ ap (λ (w : ℕ). w % 2 ^ i) (minus_sum n x y)
    ∙ mod_lower n i x h

-- The borrow into bit i is the carry of the sum that turns the result back: the low bits pass 2 ^ i just where the first word's
-- are less than the second's.
pub borrow_carry : (n x y i : ℕ) → i ≤ n → carry_into (minus_modulo n x y) y i ≡ borrow_into x y i
unfolding carry_into borrow_into
borrow_carry n x y i h = at (leb p (a + b)) refl
  where
    p : ℕ
    p = 2 ^ i

    a : ℕ
    a = minus_modulo n x y % p

    b : ℕ
    b = y % p

    low : (a + b) % p ≡ x % p
    low = low_minus n x y i h

    less : a < p
    less = mod-lt (minus_modulo n x y) (pow_pos i)

    at : (c : Bool) → leb p (a + b) ≡ c → c ≡ ltb (x % p) b
    at true e = sym (lt-ltb (x % p) b (omega (arith, low, over, less, leb-true p (a + b) e)))
      where
        over : (a + b) % p ≡ a + b - p
        over = mod-eq-sub-mod (leb-true p (a + b) e) ∙ mod-eq_of_lt (omega (arith, less, mod-lt y (pow_pos i)))
    at false e = sym (le-ltb (x % p) b (omega (arith, low, mod-eq_of_lt (leb-false p (a + b) e))))

-- none goes into bit 0
pub borrow_zero : (x y : ℕ) → borrow_into x y 0 ≡ false
unfolding borrow_into
borrow_zero x y = le-ltb (x % 2 ^ 0) (y % 2 ^ 0) (omega (arith, mod-lt y (pow_pos 0)))
