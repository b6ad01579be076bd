-- Adding two words from the low end, one position: which pairs of bits fit, and by what the carries into the next position differ.
use mathlib.Core.Path.{◌≡◌, refl, sym, ap, ap₂, ◌∙◌}
use mathlib.Core.Bool.{Bool, true, false, not, ◌&&◌, ◌||◌, xor, cond}
use Prim.Native.Nat.{ℕ, suc, ◌+◌, ◌*◌, ◌%◌, ◌^◌}
use native.Mathlib.Omega.{arith}
use native.Mathlib.Nat.{mod-one}
use borrow.Author.Tests.{eqb-true}
use lib.Dec.{eqb}
use lib.Bits.{bit_xor}
use Rattle.words.specs.Words.{value}
use Rattle.words.specs.Below.{count, total}
use Rattle.words.proofs.TruthTables.{by_table}
use Rattle.words.specs.Words.{majority}
use Rattle.words.proofs.LowBits.{low, xor_low, mod_low, add_low_mod, eqb_low}
use Rattle.words.proofs.Pairs.{pairs, pairs_cong, pairs_low, pairs_unless}
use Rattle.differential.specs.TwoWords.{all_equal}
use Rattle.differential.proofs.BitSums.{both, both_cong_two}

-- the sum over the four pairs of bits
abbrev pub over_bits : (Bool → Bool → ℕ) → ℕ
over_bits f = both (λ x. both (f x))

-- two runs with carries c and e into the lowest bit: the low n bits of the two sums differ by γ's
unfoldable pub fits_from : ℕ → ℕ → ℕ → ℕ → Bool → Bool → ℕ → ℕ → Bool
fits_from n α β γ c e x y =
    eqb (bit_xor ((bit_xor x α + bit_xor y β + value e) % 2 ^ n) ((x + y + value c) % 2 ^ n)) (γ % 2 ^ n)

unfoldable pub ways : ℕ → ℕ → ℕ → ℕ → Bool → Bool → ℕ
ways n α β γ c e = pairs n (fits_from n α β γ c e)

-- the bits of the two sums do not differ as stated, where the three differences' bits are a, b and g
unfoldable pub wrong : Bool → Bool → Bool → Bool → Bool → Bool
wrong a b g c e = xor (xor a (xor b g)) (xor c e)

-- the operands' own bits x and y play no part in that
own_bits : (x y a b g c e : Bool) → xor (xor (xor (xor (xor x a) (xor y b)) e) (xor (xor x y) c)) g ≡ wrong a b g c e
unfolding xor wrong
own_bits =
    by_table 7 (λ x y a b g c e. xor (xor (xor (xor (xor x a) (xor y b)) e) (xor (xor x y) c)) g) (λ x y a b g c e. wrong a b g c e) refl

-- they decide the carry of the second run into the next position, as of the first
abbrev pub second_carry : Bool → Bool → Bool → Bool → Bool → Bool
second_carry a b e x y = majority (xor x a) (xor y b) e

module _ (n : ℕ) (a b g c e : Bool) (A B C : ℕ) where
  fits_low : (x y : Bool) (X Y : ℕ)
      → fits_from (suc n) (low a A) (low b B) (low g C) c e (low x X) (low y Y)
      ≡ (not (wrong a b g c e) && fits_from n A B C (majority x y c) (second_carry a b e x y) X Y)
  unfolding fits_from
  fits_low x y X Y =
      ap₂ eqb
      (ap₂ bit_xor
      (ap₂ (λ (p q : ℕ). (p + q + value e) % 2 ^ suc n) (xor_low x a X A) (xor_low y b Y B)
      ∙ add_low_mod n (xor x a) (xor y b) e (bit_xor X A) (bit_xor Y B))
      (add_low_mod n x y c X Y)
      ∙ xor_low other own _ _)
      (mod_low g C n)
      ∙ eqb_low (xor other own) g _ _
      ∙ ap (λ (t : Bool). not t && fits_from n A B C (majority x y c) (second_carry a b e x y) X Y) (own_bits x y a b g c e)
    where
      own : Bool
      own = xor (xor x y) c

      other : Bool
      other = xor (xor (xor x a) (xor y b)) e

  -- none, or as many as the four pairs of lowest bits leave
  pub ways_low : ways (suc n) (low a A) (low b B) (low g C) c e
      ≡ cond (wrong a b g c e) 0 (over_bits (λ x y. ways n A B C (majority x y c) (second_carry a b e x y)))
  unfolding ways
  ways_low =
      pairs_low n (fits_from (suc n) (low a A) (low b B) (low g C) c e)
      ∙ both_cong_two (λ x y. pairs n (λ X Y. fits_from (suc n) (low a A) (low b B) (low g C) c e (low x X) (low y Y)))
      (λ x y. cond (wrong a b g c e) 0 (left x y)) part
      ∙ none_or (wrong a b g c e)
    where
      left : Bool → Bool → ℕ
      left x y = ways n A B C (majority x y c) (second_carry a b e x y)

      part : (x y : Bool)
          → pairs n (λ X Y. fits_from (suc n) (low a A) (low b B) (low g C) c e (low x X) (low y Y)) ≡ cond (wrong a b g c e) 0 (left x y)
      part x y =
          pairs_cong n _ _ (fits_low x y)
          ∙ pairs_unless n (wrong a b g c e) (fits_from n A B C (majority x y c) (second_carry a b e x y))

      none_or : (t : Bool) → over_bits (λ x y. cond t 0 (left x y)) ≡ cond t 0 (over_bits left)
      none_or true = refl
      none_or false = refl

pub ways_none : (α β γ : ℕ) (c e : Bool) → ways 0 α β γ c e ≡ 1
unfolding ways fits_from total count
ways_none α β γ c e = simp mod-one

-- ---- the carries into the next position

-- where the sums' bits differ as stated, the next carries differ in all four cases or in none, as the three differences' bits say,
-- if these are all equal; else in two
how_many_differ : (a b g c e : Bool) → wrong a b g c e ≡ false
    → over_bits (λ x y. value (xor (majority x y c) (second_carry a b e x y))) ≡ cond (all_equal a b g) (4 * value a) 2
unfolding xor wrong
how_many_differ a b g c e right =
    eqb-true (differing a b c e) (stated a b g)
    (sym (ap (λ t. t || eqb (differing a b c e) (stated a b g)) right)
    ∙ by_table 5 (λ a b g c e. wrong a b g c e || eqb (differing a b c e) (stated a b g)) (λ a b g c e. true) refl a b g c e)
  where
    differing : Bool → Bool → Bool → Bool → ℕ
    differing a b c e = over_bits (λ x y. value (xor (majority x y c) (second_carry a b e x y)))

    stated : Bool → Bool → Bool → ℕ
    stated a b g = cond (all_equal a b g) (4 * value a) 2

-- a sum of four values of a function of a Boolean, by how many of the four Booleans are true
by_how_many : (f : Bool → ℕ) (p : Bool → Bool → Bool) (all a : Bool)
    → over_bits (λ x y. value (p x y)) ≡ cond all (4 * value a) 2
    → over_bits (λ x y. f (p x y)) ≡ cond all (4 * f a) (2 * f false + 2 * f true)
by_how_many f p all a h =
    at all a (over_bits (λ x y. value (p x y)))
    (omega (arith, one (p false false), one (p false true), one (p true false), one (p true true))) h
  where
    one : (b : Bool) → f b + value b * f false ≡ value b * f true + f false
    one false = omega arith
    one true = omega arith

    at : (all a : Bool) (k : ℕ) → over_bits (λ x y. f (p x y)) + k * f false ≡ k * f true + 4 * f false → k ≡ cond all (4 * value a) 2
        → over_bits (λ x y. f (p x y)) ≡ cond all (4 * f a) (2 * f false + 2 * f true)
    at true true k e i = omega (arith, rw i at e)
    at true false k e i = omega (arith, rw i at e)
    at false a k e i = omega (arith, rw i at e)

-- what depends on the difference of the next carries alone
pub next_carries : (f : Bool → ℕ) (a b g c e : Bool) → wrong a b g c e ≡ false
    → over_bits (λ x y. f (xor (majority x y c) (second_carry a b e x y)))
    ≡ cond (all_equal a b g) (4 * f a) (2 * f false + 2 * f true)
next_carries f a b g c e right =
    by_how_many f (λ x y. xor (majority x y c) (second_carry a b e x y)) (all_equal a b g) a (how_many_differ a b g c e right)
