-- Counting pairs of words of n bits.
use mathlib.Core.Path.{◌≡◌, refl, sym, ap₂, ◌∙◌}
use mathlib.Core.Bool.{Bool, true, false, not, ◌&&◌, cond}
use Prim.Native.Nat.{ℕ, suc, ◌+◌, ◌*◌, ◌/◌, ◌%◌, ◌^◌, ◌<◌}
use native.Mathlib.Nat.{mod-lt, div-lt_iff_lt-mul}
use lib.Arith.{digits_lt, digits_div, digits_mod}
use lib.Pow.{pow_pos}
use Rattle.words.specs.Below.{count, total}
use Rattle.words.proofs.Below.{count_cong, count_none, count_zero→none, count_product, total_cong, total_add}
use Rattle.words.proofs.LowBits.{low, count_low, total_low}

-- how many pairs of words of n bits pass
abbrev pub pairs : ℕ → (ℕ → ℕ → Bool) → ℕ
pairs n p = total (2 ^ n) (λ x. count (2 ^ n) (p x))

pub pairs_cong : (n : ℕ) (p q : ℕ → ℕ → Bool) → ((x y : ℕ) → p x y ≡ q x y) → pairs n p ≡ pairs n q
pairs_cong n p q h =
    total_cong (2 ^ n) (λ x. count (2 ^ n) (p x)) (λ x. count (2 ^ n) (q x)) (λ x _. count_cong (2 ^ n) (p x) (q x) (λ y _. h x y))

-- ---- none

-- the pairs one after the other
one_by_one : (n : ℕ) (p : ℕ → ℕ → Bool) → count (2 ^ n * 2 ^ n) (λ z. p (z / 2 ^ n) (z % 2 ^ n)) ≡ pairs n p
one_by_one n p = count_product (2 ^ n) (2 ^ n) p (pow_pos n)

pub pairs_none : (n : ℕ) (p : ℕ → ℕ → Bool) → ((x y : ℕ) → x < 2 ^ n → y < 2 ^ n → p x y ≡ false) → pairs n p ≡ 0
pairs_none n p h = sym (one_by_one n p) ∙ count_none (2 ^ n * 2 ^ n) (λ z. p (z / 2 ^ n) (z % 2 ^ n)) at
  where
    at : (z : ℕ) → z < 2 ^ n * 2 ^ n → p (z / 2 ^ n) (z % 2 ^ n) ≡ false
    at z l = h (z / 2 ^ n) (z % 2 ^ n) ((div-lt_iff_lt-mul (pow_pos n)).1 l) (mod-lt z (pow_pos n))

pub pairs_zero→none : (n : ℕ) (p : ℕ → ℕ → Bool) → pairs n p ≡ 0 → (x y : ℕ) → x < 2 ^ n → y < 2 ^ n → p x y ≡ false
pairs_zero→none n p e x y hx hy =
    sym (ap₂ p (digits_div x hy) (digits_mod x hy))
    ∙ count_zero→none (2 ^ n * 2 ^ n) (λ z. p (z / 2 ^ n) (z % 2 ^ n)) (one_by_one n p ∙ e) (x * 2 ^ n + y) (digits_lt hx hy)

-- none, or as many as without a condition that does not depend on the pair
pub pairs_unless : (n : ℕ) (t : Bool) (p : ℕ → ℕ → Bool) → pairs n (λ x y. not t && p x y) ≡ cond t 0 (pairs n p)
pairs_unless n true p = pairs_none n (λ x y. false) (λ x y _ _. refl)
pairs_unless n false p = refl

-- by the words' lowest bits
pub pairs_low : (n : ℕ) (p : ℕ → ℕ → Bool)
    → pairs (suc n) p
    ≡ pairs n (λ x y. p (low false x) (low false y)) + pairs n (λ x y. p (low false x) (low true y))
    + (pairs n (λ x y. p (low true x) (low false y)) + pairs n (λ x y. p (low true x) (low true y)))
pairs_low n p = total_low n (λ x. count (2 ^ suc n) (p x)) ∙ ap₂ ◌+◌ (rows false) (rows true)
  where
    rows : (b : Bool)
        → total (2 ^ n) (λ x. count (2 ^ suc n) (p (low b x)))
        ≡ pairs n (λ x y. p (low b x) (low false y)) + pairs n (λ x y. p (low b x) (low true y))
    rows b =
        total_cong (2 ^ n) (λ x. count (2 ^ suc n) (p (low b x)))
        (λ x. count (2 ^ n) (λ y. p (low b x) (low false y)) + count (2 ^ n) (λ y. p (low b x) (low true y)))
        (λ x _. count_low n (p (low b x)))
        ∙ total_add (2 ^ n) (λ x. count (2 ^ n) (λ y. p (low b x) (low false y))) (λ x. count (2 ^ n) (λ y. p (low b x) (low true y)))
