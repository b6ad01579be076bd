-- The logarithm in any unit: the place of the highest one, what the four bits after it add, and how far the two are from the truth.
use mathlib.Core.Path.{◌≡◌, refl, sym, ap, subst, ◌∙◌}
use mathlib.Core.Bool.{Bool, true, false, ◌&&◌, cond, and-eq-true_iff}
use Prim.Native.Nat.{ℕ, zero, suc, ◌+◌, ◌-◌, ◌*◌, ◌/◌, ◌%◌, ◌^◌, ◌<◌, ◌≤◌}
use native.Mathlib.Nat.{add_assoc, mul_assoc, mul_comm, mul_right_comm, suc-mul}
use native.Mathlib.Nat.{div-lt_iff_lt-mul, div-mul-le_self, le-div_iff_mul-le, lt-div-mul-add, mod-eq_of_lt, mod-lt, mul-div-mul_right}
use native.Mathlib.Nat.{le_of_eq, le_of_lt, le_of_mul-le-mul_right, le_trans, lt_of_le_of_lt, mul-le-mul_right, pow-le-pow_left}
use native.Mathlib.Numerals.{add-one}
use native.Mathlib.Omega.{arith}
use borrow.Author.Tests.{leb-true}
use lib.Count.{count_leading_zeros, leading_top}
use lib.Dec.{leb}
use lib.Pow.{pow-add, pow_pos, shl-shr}
use Rattle.words.specs.Words.{value, bit}
use Rattle.words.specs.Below.{all}
use Rattle.words.proofs.Below.{all_true}
use Rattle.words.proofs.Bits.{from_bits_below, mod_bit}
use Rattle.differential.specs.Unit.{unit, slack, table}
use Rattle.differential.specs.Logarithm.{highest_one_below, highest_one, next_four, logarithm}
use Rattle.differential.proofs.Powers.{exponent_lt, lt_pow, mul_pow, pow_mul}

-- ---- the place of the highest one

-- M is the place of p's highest one
abbrev At : ℕ → ℕ → Type 0
At p m = (2 ^ m ≤ p) × (p < 2 ^ (m + 1))

highest_below : (b p : ℕ) → 0 < p → p < 2 ^ b → At p (highest_one_below b p)
unfolding highest_one_below
highest_below zero p h l = absurd (omega arith)
highest_below (suc b) p h l = at (bit p b) refl (highest_below b p h)
  where
    parts : p ≡ value (bit p b) * 2 ^ b + p % 2 ^ b
    parts = sym (mod-eq_of_lt l) ∙ mod_bit p b

    at : (t : Bool) → bit p b ≡ t → (p < 2 ^ b → At p (highest_one_below b p)) → At p (cond t b (highest_one_below b p))
    at true e lower = (omega (arith, parts, ap (λ (z : Bool). value z * 2 ^ b) e), rw (add-one b) l)
    at false e lower = lower (omega (arith, parts, ap (λ (z : Bool). value z * 2 ^ b) e, mod-lt p (pow_pos b)))

module _ (p : ℕ) (some : 0 < p) where
  pub highest_one_low : 2 ^ highest_one p ≤ p
  unfolding highest_one
  highest_one_low = (highest_below p p some (lt_pow p)).0

  pub highest_one_high : p < 2 ^ (highest_one p + 1)
  unfolding highest_one
  highest_one_high = (highest_below p p some (lt_pow p)).1

  pub highest_one_only : (m : ℕ) → 2 ^ m ≤ p → p < 2 ^ (m + 1) → m ≡ highest_one p
  highest_one_only m lo hi =
      omega (
        arith,
        exponent_lt m (highest_one p + 1) (lt_of_le_of_lt lo highest_one_high),
        exponent_lt (highest_one p) (m + 1) (lt_of_le_of_lt highest_one_low hi),
      )

  -- in a word of w bits, the zeros above the highest one, that one, and the places below it make w
  pub leading_highest_one : (w : ℕ) → p < 2 ^ w → count_leading_zeros w p + suc (highest_one p) ≡ w
  leading_highest_one w word =
      let top = leading_top w p some word in
      let place = highest_one_only top.0 top.2 (rw add-one top.3) in
      rw (← place) top.1

-- ---- the four bits after it

pub next_four_is : (p : ℕ) → next_four p ≡ p * 16 / 2 ^ highest_one p % 16
unfolding next_four
next_four_is p = from_bits_below 4 p (highest_one p)

pub next_four_lt : (p : ℕ) → next_four p < 16
next_four_lt p = omega (arith, next_four_is p)

-- by one shift: down where M is 4 or more, up where it is less
pub next_four_down : (p : ℕ) → 4 ≤ highest_one p → next_four p ≡ p / 2 ^ (highest_one p - 4) % 16
next_four_down p l =
    next_four_is p
    ∙ ap (λ (z : ℕ). z % 16) (ap (λ (z : ℕ). p * 16 / z) parts ∙ mul-div-mul_right p (2 ^ (m - 4)) (pow_pos 4))
  where
    m : ℕ
    m = highest_one p

    parts : 2 ^ m ≡ 2 ^ (m - 4) * 16
    parts = ap (λ (z : ℕ). 2 ^ z) (omega arith) ∙ pow-add 2 (m - 4) 4

pub next_four_up : (p : ℕ) → highest_one p < 4 → next_four p ≡ p * 2 ^ (4 - highest_one p) % 16
next_four_up p l = next_four_is p ∙ ap (λ (z : ℕ). z % 16) (ap (λ (z : ℕ). z / 2 ^ m) parts ∙ shl-shr (p * 2 ^ (4 - m)) m)
  where
    m : ℕ
    m = highest_one p

    parts : p * 16 ≡ p * 2 ^ (4 - m) * 2 ^ m
    parts =
        ap (λ (z : ℕ). p * 2 ^ z) four
        ∙ ap (λ (z : ℕ). p * z) (pow-add 2 (4 - m) m)
        ∙ sym (mul_assoc p (2 ^ (4 - m)) (2 ^ m))
      where
        four : 4 ≡ 4 - m + m
        four = omega arith

-- ---- how far it is from the truth

-- In units of 1 / q bit F adds t F, and e units are left open: (16 + F) / 16 to the power of q is 2 ^ t F at least, and (17 + F) / 16 to
-- the power of q is 2 ^ (t F + e) at most. One test, computed at each of the sixteen F.
within : ℕ → ℕ → (ℕ → ℕ) → ℕ → Bool
within q e t f = leb (2 ^ t f * 16 ^ q) ((16 + f) ^ q) && leb ((17 + f) ^ q) (2 ^ (t f + e) * 16 ^ q)

module _ (p : ℕ) (some : 0 < p) where
  abbrev m : ℕ
  m = highest_one p

  abbrev f : ℕ
  f = next_four p

  -- p in sixteenths of 2 ^ M, rounded down
  rounded : p * 16 / 2 ^ m ≡ 16 + f
  rounded = omega (arith, next_four_is p, least, most)
    where
      least : 16 ≤ p * 16 / 2 ^ m
      least = (le-div_iff_mul-le (pow_pos m)).1 (omega (arith, highest_one_low p some))

      most : p * 16 / 2 ^ m < 32
      most = (div-lt_iff_lt-mul (pow_pos m)).1 (omega (arith, highest_one_high p some, pow-add 2 m 1))

  -- p lies between 16 + F and 17 + F of them
  lower : (16 + f) * 2 ^ m ≤ p * 16
  lower = subst (λ (z : ℕ). z * 2 ^ m ≤ p * 16) rounded (div-mul-le_self (p * 16) (2 ^ m))

  upper : p * 16 ≤ (17 + f) * 2 ^ m
  upper = rw more (le_of_lt (subst (λ (z : ℕ). p * 16 < z * 2 ^ m + 2 ^ m) rounded above))
    where
      above : p * 16 < p * 16 / 2 ^ m * 2 ^ m + 2 ^ m
      above = lt-div-mul-add (pow_pos m)

      more : (17 + f) * 2 ^ m ≡ (16 + f) * 2 ^ m + 2 ^ m
      more = ap (λ (z : ℕ). z * 2 ^ m) (omega arith) ∙ suc-mul (16 + f) (2 ^ m)

  module _ (q e : ℕ) (t : ℕ → ℕ) (tested : all 16 (within q e t) ≡ true) where
    passes : (leb (2 ^ t f * 16 ^ q) ((16 + f) ^ q) ≡ true) × (leb ((17 + f) ^ q) (2 ^ (t f + e) * 16 ^ q) ≡ true)
    unfolding within
    passes =
        (and-eq-true_iff (leb (2 ^ t f * 16 ^ q) ((16 + f) ^ q)) (leb ((17 + f) ^ q) (2 ^ (t f + e) * 16 ^ q))).0
        (all_true 16 (within q e t) tested f (next_four_lt p))

    powers : (k : ℕ) → (k * 2 ^ m) ^ q ≡ k ^ q * 2 ^ (q * m)
    powers k = mul_pow k (2 ^ m) q ∙ ap (λ (z : ℕ). k ^ q * z) (sym (pow_mul 2 m q) ∙ ap (λ (z : ℕ). 2 ^ z) (mul_comm m q))

    twos : (g : ℕ) → 2 ^ g * 16 ^ q * 2 ^ (q * m) ≡ 2 ^ (q * m + g) * 16 ^ q
    twos g =
        mul_right_comm (2 ^ g) (16 ^ q) (2 ^ (q * m))
        ∙ ap (λ (z : ℕ). z * 16 ^ q) (mul_comm (2 ^ g) (2 ^ (q * m)) ∙ sym (pow-add 2 (q * m) g))

    scale_pos : 0 < 16 ^ q
    scale_pos = subst (λ (z : ℕ). 0 < z) (pow_mul 2 4 q) (pow_pos (4 * q))

    unit_low : 2 ^ (q * m + t f) ≤ p ^ q
    unit_low =
        le_of_mul-le-mul_right
        (le_trans (le_of_eq (sym (twos (t f))))
        (le_trans (mul-le-mul_right (2 ^ (q * m)) (leb-true _ _ passes.0))
        (le_trans (le_of_eq (sym (powers (16 + f))))
        (le_trans (pow-le-pow_left lower q)
        (le_of_eq (mul_pow p 16 q))))))
        scale_pos

    unit_high : p ^ q ≤ 2 ^ (q * m + t f + e)
    unit_high =
        le_of_mul-le-mul_right
        (le_trans (le_of_eq (sym (mul_pow p 16 q)))
        (le_trans (pow-le-pow_left upper q)
        (le_trans (le_of_eq (powers (17 + f)))
        (le_trans (mul-le-mul_right (2 ^ (q * m)) (leb-true _ _ passes.1))
        (le_of_eq (twos (t f + e) ∙ ap (λ (z : ℕ). 2 ^ z * 16 ^ q) (sym (add_assoc (q * m) (t f) e))))))))
        scale_pos

-- the unit of weights, its slack and its table pass
tested : all 16 (within unit slack table) ≡ true
unfolding all within
tested = refl

-- p to the power of the unit is 2 ^ A at least
pub logarithm_low : (p : ℕ) → 0 < p → 2 ^ logarithm p ≤ p ^ unit
unfolding logarithm
logarithm_low p some = unit_low p some unit slack table tested

-- and 2 ^ (A + the slack) at most
pub logarithm_high : (p : ℕ) → 0 < p → p ^ unit ≤ 2 ^ (logarithm p + slack)
unfolding logarithm
logarithm_high p some = unit_high p some unit slack table tested
