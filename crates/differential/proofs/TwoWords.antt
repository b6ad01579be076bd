-- Adding two words: the rule of source document 000's Theorem 1 gives the number of pairs of words that fit, for every width.
-- It is shown from the low end, for carries into the lowest bit whose difference is any δ.
use mathlib.Core.Path.{◌≡◌, refl, sym, ap, ap₂, ◌∙◌}
use mathlib.Core.Bool.{Bool, true, false, not, ◌&&◌, ◌||◌, xor, cond}
use Prim.Native.Nat.{ℕ, zero, suc, ◌+◌, ◌-◌, ◌*◌, ◌/◌, ◌%◌, ◌^◌, ◌<◌, ◌≤◌}
use native.Mathlib.Omega.{arith}
use native.Mathlib.Nat.{add-zero, zero-mul, mod-eq_of_lt, eq_of_mul-eq-mul_right}
use lib.Dec.{eqb}
use lib.Bits.{bit_xor}
use lib.Pow.{pow-add, pow_pos}
use Rattle.words.specs.Words.{value, bit, sum_modulo}
use Rattle.words.specs.Below.{any, count}
use Rattle.words.proofs.Bits.{below_zero, below_suc}
use Rattle.words.proofs.Below.{any_cong, any_shift, count_cong, count_le, count_shift}
use Rattle.words.specs.Words.{majority}
use Rattle.words.proofs.LowBits.{low, low_bit, bit_low_zero, bit_low_suc}
use Rattle.words.proofs.Pairs.{pairs, pairs_cong}
use Rattle.differential.specs.TwoWords.{all_equal, clashes, words_impossible, words_weight}
use Rattle.differential.proofs.Turning.{fits_by}
use Rattle.differential.proofs.BitSums.{both_cong_two}
use Rattle.differential.proofs.AddingBits.{over_bits, fits_from, ways, wrong, second_carry, ways_low, ways_none, next_carries}

-- the XOR of the three differences' bits at a position
sum_at : ℕ → ℕ → ℕ → ℕ → Bool
sum_at α β γ i = xor (bit α i) (xor (bit β i) (bit γ i))

-- the three differences' bits at a position are not all equal
apart : ℕ → ℕ → ℕ → ℕ → Bool
apart α β γ i = not (all_equal (bit α i) (bit β i) (bit γ i))

weight_count : (n α β γ : ℕ) → words_weight (suc n) α β γ ≡ count n (apart α β γ)
unfolding words_weight apart
weight_count n α β γ = ap (λ (z : ℕ). count z (apart α β γ)) (omega arith)

clash_zero : (α β γ : ℕ) → clashes α β γ 0 ≡ xor (sum_at α β γ 0) false
unfolding clashes sum_at
clash_zero α β γ = rw (below_zero α, below_zero β, below_zero γ)

clash_suc : (α β γ i : ℕ) → clashes α β γ (suc i) ≡ (all_equal (bit α i) (bit β i) (bit γ i) && xor (sum_at α β γ (suc i)) (bit α i))
unfolding clashes sum_at
clash_suc α β γ i = rw (below_suc α i, below_suc β i, below_suc γ i)

-- ---- differences that have one position more, with the bits a, b and g, than A, B and C

module _ (a b g : Bool) (A B C : ℕ) where
  sum_low : sum_at (low a A) (low b B) (low g C) 0 ≡ xor a (xor b g)
  unfolding sum_at
  sum_low = rw (bit_low_zero a A, bit_low_zero b B, bit_low_zero g C)

  clash_next : clashes (low a A) (low b B) (low g C) 1 ≡ (all_equal a b g && xor (sum_at A B C 0) a)
  unfolding sum_at
  clash_next =
      clash_suc (low a A) (low b B) (low g C) 0
      ∙ rw (bit_low_zero a A, bit_low_zero b B, bit_low_zero g C, bit_low_suc a A 0, bit_low_suc b B 0, bit_low_suc g C 0)

  clash_later : (i : ℕ) → clashes (low a A) (low b B) (low g C) (suc (suc i)) ≡ clashes A B C (suc i)
  unfolding sum_at
  clash_later i = clash_suc (low a A) (low b B) (low g C) (suc i) ∙ simp bit_low_suc (sym (clash_suc A B C i))

  clash_low : (n : ℕ)
      → any (suc n) (λ i. clashes (low a A) (low b B) (low g C) (suc i))
      ≡ (all_equal a b g && xor (sum_at A B C 0) a || any n (λ i. clashes A B C (suc i)))
  clash_low n =
      any_shift n (λ i. clashes (low a A) (low b B) (low g C) (suc i))
      ∙ ap₂ ◌||◌ clash_next
      (any_cong n (λ i. clashes (low a A) (low b B) (low g C) (suc (suc i))) (λ i. clashes A B C (suc i)) (λ i _. clash_later i))

  weight_low : (n : ℕ)
      → words_weight (suc (suc n)) (low a A) (low b B) (low g C) ≡ value (not (all_equal a b g)) + words_weight (suc n) A B C
  unfolding apart
  weight_low n =
      weight_count (suc n) (low a A) (low b B) (low g C)
      ∙ count_shift n (apart (low a A) (low b B) (low g C))
      ∙ ap₂ (λ (t : Bool) (m : ℕ). value t + m) here
      (count_cong n (λ i. apart (low a A) (low b B) (low g C) (suc i)) (apart A B C) later ∙ sym (weight_count n A B C))
    where
      here : apart (low a A) (low b B) (low g C) 0 ≡ not (all_equal a b g)
      here = rw (bit_low_zero a A, bit_low_zero b B, bit_low_zero g C)

      later : (i : ℕ) → i < n → apart (low a A) (low b B) (low g C) (suc i) ≡ apart A B C i
      later i _ = rw (bit_low_suc a A i, bit_low_suc b B i, bit_low_suc g C i)

-- ---- the rule from the low end

module _ (Q : ℕ) (s clash : Bool) where
  -- Q, or nothing: where a later position clashes, or where the XOR s of the bits at this one is not the carries' difference δ
  left : Bool → ℕ
  left δ = cond (xor s δ || clash) 0 Q

  -- below a position whose bits have the XOR s: bits that are all equal, to a, or bits that halve what is left
  left_below : (same a : Bool)
      → cond same (4 * left a) (2 * left false + 2 * left true) * 2 ^ value (not same) ≡ cond (same && xor s a || clash) 0 (4 * Q)
  unfolding xor left
  left_below true a = kept (xor s a || clash)
    where
      kept : (t : Bool) → 4 * cond t 0 Q * 1 ≡ cond t 0 (4 * Q)
      kept true = refl
      kept false = omega arith
  left_below false a = halved s clash
    where
      halved : (s clash : Bool) → (2 * cond (xor s false || clash) 0 Q + 2 * cond (xor s true || clash) 0 Q) * 2 ≡ cond clash 0 (4 * Q)
      halved true true = refl
      halved false true = refl
      halved true false = omega arith
      halved false false = omega arith

-- the ways of n + 1 positions, times 2 ^ w, are all pairs; or there is none
Rule : ℕ → ℕ → ℕ → ℕ → Type 0
Rule n α β γ =
    (c e : Bool)
    → ways (suc n) α β γ c e * 2 ^ words_weight (suc n) α β γ
    ≡ left (2 ^ (2 * suc n)) (sum_at α β γ 0) (any n (λ i. clashes α β γ (suc i))) (xor c e)

module _ (a b g : Bool) (A B C : ℕ) where
  rule_one : Rule 0 (low a A) (low b B) (low g C)
  unfolding Rule left wrong words_weight count any
  rule_one c e = rw (ways_low 0 a b g c e A B C, sum_low a b g A B C) (simp ways_none (at (wrong a b g c e)))
    where
      at : (t : Bool) → cond t 0 4 * 1 ≡ cond (t || false) 0 4
      at true = refl
      at false = refl

  rule_more : (n : ℕ) → Rule n A B C → Rule (suc n) (low a A) (low b B) (low g C)
  unfolding Rule left wrong
  rule_more n h c e =
      ap₂ (λ (z m : ℕ). z * 2 ^ m) (ways_low (suc n) a b g c e A B C) (weight_low a b g A B C n)
      ∙ at (wrong a b g c e) refl
      ∙ rw (four_times, ← sum_low a b g A B C, ← clash_low a b g A B C n)
    where
      v : ℕ
      v = value (not (all_equal a b g))

      w : ℕ
      w = words_weight (suc n) A B C

      Q : ℕ
      Q = 2 ^ (2 * suc n)

      s : Bool
      s = sum_at A B C 0

      clash : Bool
      clash = any n (λ i. clashes A B C (suc i))

      each : Bool → Bool → ℕ
      each x y = ways (suc n) A B C (majority x y c) (second_carry a b e x y)

      four_times : 4 * Q ≡ 2 ^ (2 * suc (suc n))
      four_times = sym (ap (λ (z : ℕ). 2 ^ z) (omega arith) ∙ pow-add 2 2 (2 * suc n))

      share : (f : Bool → Bool → ℕ) (y z : ℕ) → over_bits f * (y * z) ≡ over_bits (λ b c. f b c * z) * y
      share f y z = omega arith

      at : (t : Bool) → wrong a b g c e ≡ t
          → cond t 0 (over_bits each) * 2 ^ (v + w) ≡ cond (t || (all_equal a b g && xor s a || clash)) 0 (4 * Q)
      at true _ = zero-mul (2 ^ (v + w))
      at false right =
          ap (λ (z : ℕ). over_bits each * z) (pow-add 2 v w)
          ∙ share each (2 ^ v) (2 ^ w)
          ∙ ap (λ (z : ℕ). z * 2 ^ v)
          (both_cong_two (λ x y. each x y * 2 ^ w)
          (λ x y. left Q s clash (xor (majority x y c) (second_carry a b e x y)))
          (λ x y. h (majority x y c) (second_carry a b e x y))
          ∙ next_carries (left Q s clash) a b g c e right)
          ∙ left_below Q s clash (all_equal a b g) a

by_low : (P : ℕ → ℕ → ℕ → Type 0) → ((a b g : Bool) (A B C : ℕ) → P (low a A) (low b B) (low g C)) → (α β γ : ℕ) → P α β γ
by_low P h α β γ =
    rw (low_bit α, low_bit β, low_bit γ) at (h (bit α 0) (bit β 0) (bit γ 0) (α / 2) (β / 2) (γ / 2))

rule : (n α β γ : ℕ) → Rule n α β γ
rule zero = by_low (Rule zero) rule_one
rule (suc n) = by_low (Rule (suc n)) (λ a b g A B C. rule_more a b g A B C n (rule n A B C))

-- ---- the rule as document 01 says it

words_rule : (n α β γ : ℕ) → 1 ≤ n
    → ways n α β γ false false * 2 ^ words_weight n α β γ ≡ cond (words_impossible n α β γ) 0 (2 ^ (2 * n))
unfolding Rule words_impossible left xor
words_rule zero α β γ h = absurd (omega arith)
words_rule (suc n) α β γ h = rule n α β γ false false ∙ ap (λ t. cond t 0 (2 ^ (2 * suc n))) (sym impossible)
  where
    impossible : any (suc n) (clashes α β γ) ≡ (xor (sum_at α β γ 0) false || any n (λ i. clashes α β γ (suc i)))
    impossible = any_shift n (clashes α β γ) ∙ ap (λ t. t || any n (λ i. clashes α β γ (suc i))) (clash_zero α β γ)

pub weight_less : (n α β γ : ℕ) → 1 ≤ n → words_weight n α β γ < n
unfolding words_weight
weight_less n α β γ h = omega (arith, count_le (n - 1) (λ i. not (all_equal (bit α i) (bit β i) (bit γ i))))

module _ (n α β γ : ℕ) (least : 1 ≤ n) (word : γ < 2 ^ n) where
  fits_sum : (x y : ℕ) → fits_by (sum_modulo n) α β γ x y ≡ fits_from n α β γ false false x y
  unfolding fits_from sum_modulo
  fits_sum x y = ap₂ eqb (ap₂ bit_xor (sum (bit_xor x α) (bit_xor y β)) (sum x y)) (sym (mod-eq_of_lt word))
    where
      sum : (x y : ℕ) → (x + y) % 2 ^ n ≡ (x + y + 0) % 2 ^ n
      sum x y = ap (λ (z : ℕ). z % 2 ^ n) (sym (add-zero (x + y)))

  -- the pairs that fit, times 2 ^ w, are all pairs; or there is none
  pairs_rule : pairs n (fits_by (sum_modulo n) α β γ) * 2 ^ words_weight n α β γ ≡ cond (words_impossible n α β γ) 0 (2 ^ (2 * n))
  unfolding ways
  pairs_rule =
      ap (λ (z : ℕ). z * 2 ^ words_weight n α β γ)
      (pairs_cong n (fits_by (sum_modulo n) α β γ) (fits_from n α β γ false false) fits_sum)
      ∙ words_rule n α β γ least

  pub pairs_number : pairs n (fits_by (sum_modulo n) α β γ) ≡ cond (words_impossible n α β γ) 0 (2 ^ (2 * n - words_weight n α β γ))
  pairs_number = eq_of_mul-eq-mul_right (2 ^ w) (pow_pos w) _ _ (pairs_rule ∙ sym (shared (words_impossible n α β γ)))
    where
      w : ℕ
      w = words_weight n α β γ

      back : 2 * n - w + w ≡ 2 * n
      back = omega (arith, weight_less n α β γ least)

      shared : (t : Bool) → cond t 0 (2 ^ (2 * n - w)) * 2 ^ w ≡ cond t 0 (2 ^ (2 * n))
      shared true = zero-mul (2 ^ w)
      shared false = sym (pow-add 2 (2 * n - w) w) ∙ ap (λ (z : ℕ). 2 ^ z) back
