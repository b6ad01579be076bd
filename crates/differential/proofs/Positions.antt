-- The words that go through each position: those whose carries there differ by u XOR v, so that the result's difference is v.
use mathlib.Core.Path.{◌≡◌, refl, sym, ap, ap₂, ◌∙◌}
use mathlib.Core.Bool.{Bool, true, false, not, ◌&&◌, xor, cond, beq, and-true}
use Prim.Native.Nat.{ℕ, zero, suc, ◌+◌, ◌*◌, ◌^◌}
use native.Mathlib.Nat.{mul_assoc, mul_right_comm, pow-suc, zero-mul}
use native.Mathlib.Omega.{arith}
use Rattle.words.specs.Words.{value, bit, bit_below, from_bits}
use Rattle.words.specs.Below.{count, total}
use Rattle.words.proofs.Bits.{below_suc}
use Rattle.differential.specs.Carries.{reaching}
use Rattle.differential.specs.Product.{product, chain_k}
use Rattle.differential.specs.Constant.{State, state, is000, is11, halvings, quiet, is_chain, chain_t}
use Rattle.differential.proofs.BitSums.{both}
use Rattle.differential.proofs.CarryPairs.{reaching_start, reaching_step}
use Rattle.differential.proofs.ChainLaws.{chain_k_11, chain_t_le, chain_t_next, state_suc}
use Rattle.differential.proofs.Transitions.{differing, differing_step, differing_all, differing_share}
use Rattle.differential.proofs.Transitions.{carrying, carrying_step, carrying_share, share}

module _ (a u v : ℕ) where
  abbrev differ : ℕ → Bool
  differ i = xor (bit u i) (bit v i)

  -- the words that go through position i, with the first run's carry 0 and with 1
  zeros : ℕ → ℕ
  zeros i = reaching a u v i false (differ i)

  ones : ℕ → ℕ
  ones i = reaching a u v i true (not (differ i))

  through : ℕ → ℕ
  through i = zeros i + ones i

  -- H and the sum of the K
  unfoldable pub exponent : ℕ → ℕ
  exponent n = halvings n u v + total n (chain_k u v)

  -- T, also where no run ends
  T : ℕ → ℕ
  T i = chain_t a (quiet u v i) i

  -- the factor of state i: for a state 11* its p, also with K = 0; for a state 001, which no word reaches, 0
  unfoldable pub factor : ℕ → ℕ
  factor i =
      share (bit_below 1 a i) (bit_below 1 u i) (bit_below 1 v i) (differ i) (2 ^ quiet u v i) (chain_t a (quiet u v i) i)

  -- The two facts that go from position to position. The words that go through are a product of the states' factors so far.
  Through : ℕ → Type 0
  Through i = through i * 2 ^ exponent (suc i) ≡ 2 ^ i * product (suc i) factor

  -- And where the differences agree at a position, T of 2 ^ K of the words that go through it have carries 1.
  Ones : ℕ → Type 0
  Ones i = differ i ≡ false → ones i * 2 ^ quiet u v (suc i) ≡ T (suc i) * through i

  -- ---- from position to position

  through_next : (i : ℕ)
      → through (suc i) ≡ differing (bit a i) (bit u i) (bit v i) (differ (suc i)) (zeros i) (ones i)
  unfolding zeros ones through
  through_next i =
      ap₂ ◌+◌ (reaching_step a u v i false (differ (suc i))) (reaching_step a u v i true (not (differ (suc i))))
      ∙ differing_step (reaching a u v i) (bit a i) (bit u i) (bit v i) (differ (suc i))

  ones_next : (i : ℕ) → differ (suc i) ≡ false
      → ones (suc i) ≡ carrying (bit a i) (bit u i) (bit v i) (zeros i) (ones i)
  unfolding zeros ones
  ones_next i z =
      ap (λ (t : Bool). reaching a u v (suc i) true (not t)) z
      ∙ reaching_step a u v i true true
      ∙ carrying_step (reaching a u v i) (bit a i) (bit u i) (bit v i)

  exponent_next : (i : ℕ)
      → exponent (suc (suc i))
      ≡ exponent (suc i) + (value (differ i) + cond (bit u i && bit v i) (quiet u v (suc i)) 0)
  unfolding exponent halvings count total
  exponent_next i =
      omega (
        arith,
        chain_k_11 u v (suc i),
        ap (λ (s : State). value (xor s.u_below s.v_below)) (state_suc u v i),
        ap (λ (s : State). cond (is11 s) (quiet u v (suc i)) 0) (state_suc u v i),
      )

  factor_next : (i : ℕ)
      → factor (suc i)
      ≡ share (bit a i) (bit u i) (bit v i) (differ (suc i)) (2 ^ quiet u v (suc i)) (T (suc i))
  unfolding factor T
  factor_next i = rw (below_suc a i, below_suc u i, below_suc v i)

  through_suc : (i : ℕ) → Through i → Ones i → Through (suc i)
  unfolding Through Ones through product T
  through_suc i m e =
      ap₂ (λ (p q : ℕ). p * 2 ^ q) (through_next i) (exponent_next i)
      ∙ differing_share (bit a i) (bit u i) (bit v i) (differ (suc i)) (zeros i) (ones i)
      (quiet u v (suc i)) (T (suc i)) (exponent (suc i)) (2 ^ i * product (suc i) factor)
      (chain_t_le a (quiet u v (suc i)) (suc i)) e m
      ∙ ap (λ (z : ℕ). 2 ^ i * product (suc i) factor * 2 * z) (sym (factor_next i))
      ∙ regroup (2 ^ i) (product (suc i) factor) 2 (factor (suc i))
      ∙ ap (λ (z : ℕ). z * (product (suc i) factor * factor (suc i))) (sym (pow-suc 2 i))
    where
      regroup : (x p c f : ℕ) → x * p * c * f ≡ x * c * (p * f)
      regroup x p c f = ap (λ (z : ℕ). z * f) (mul_right_comm x p c) ∙ mul_assoc (x * c) p f

  -- where the differences agree, the state is 000 if both are 0 below
  quiet_next : (i : ℕ) → differ (suc i) ≡ false → is000 (state u v (suc i)) ≡ (not (bit u i) && not (bit v i))
  quiet_next i z =
      ap is000 (state_suc u v i)
      ∙ ap (λ (t : Bool). not (bit u i) && (not (bit v i) && not t)) z
      ∙ ap (λ (t : Bool). not (bit u i) && t) (and-true (not (bit v i)))

  grown : (i : ℕ) → (t b : Bool) → ℕ
  grown i t b = cond t (T (suc i) + value b * 2 ^ quiet u v (suc i)) (value b)

  T-next : (i : ℕ) → differ (suc i) ≡ false → T (suc (suc i)) ≡ grown i (not (bit u i) && not (bit v i)) (bit a i)
  unfolding T grown
  T-next i z = chain_t_next a u v (suc i) ∙ ap₂ (grown i) (quiet_next i z) (below_suc a i)

  ones_suc : (i : ℕ) → Ones i → Ones (suc i)
  unfolding Ones T grown quiet through
  ones_suc i e z =
      ap₂ (λ (p : ℕ) (t : Bool). p * 2 ^ cond t (suc (quiet u v (suc i))) 0) (ones_next i z) (quiet_next i z)
      ∙ carrying_share (bit a i) (bit u i) (bit v i) (zeros i) (ones i) (quiet u v (suc i)) (T (suc i)) e
      ∙ sym (ap₂ ◌*◌ (T-next i z) (through_next i ∙ ap equal z))
    where
      equal : Bool → ℕ
      equal d = differing (bit a i) (bit u i) (bit v i) d (zeros i) (ones i)

  -- ---- the lowest position

  through_zero : Through 0
  unfolding Through through exponent halvings count total product factor share zeros ones chain_k is_chain quiet bit_below xor
  through_zero =
      ap (λ (z : ℕ). z * 1)
      (ap₂ ◌+◌ (reaching_start a u v false (differ 0)) (reaching_start a u v true (not (differ 0))))
      ∙ at (differ 0)
    where
      start : Bool → Bool → ℕ
      start c e = value (beq false c && beq false e)

      at : (d : Bool) → (start false d + start true (not d)) * 1 ≡ 1 * (1 * cond d 0 1)
      at true = refl
      at false = refl

  T-one : T 1 ≡ 0
  unfolding T chain_t from_bits bit_below quiet
  T-one = chain_t_next a u v 0 ∙ at (is000 (state u v 0))
    where
      at : (t : Bool) → cond t (0 + 0 + 0 * 2 ^ 0) 0 ≡ 0
      at true = refl
      at false = refl

  ones_zero : Ones 0
  unfolding Ones ones
  ones_zero z =
      ap (λ (t : ℕ). t * 2 ^ quiet u v 1) (reaching_start a u v true (not (differ 0)))
      ∙ zero-mul (2 ^ quiet u v 1)
      ∙ sym (ap (λ (t : ℕ). t * through 0) T-one ∙ zero-mul (through 0))

  holds : (i : ℕ) → Through i × Ones i
  holds zero = (through_zero, ones_zero)
  holds (suc i) = (through_suc i (holds i).0 (holds i).1, ones_suc i (holds i).1)

  -- ---- all positions

  abbrev four : ℕ → ℕ
  four i = both (λ c. both (reaching a u v i c))

  -- past its last position a word that goes through it has either value of the operand's bit there
  four_suc : (i : ℕ) → four (suc i) ≡ through i * 2
  unfolding through zeros ones
  four_suc i =
      omega (
        arith,
        differing_step (reaching a u v i) (bit a i) (bit u i) (bit v i) false,
        differing_step (reaching a u v i) (bit a i) (bit u i) (bit v i) true,
        differing_all (bit a i) (bit u i) (bit v i) (zeros i) (ones i),
        reaching_step a u v i false false,
        reaching_step a u v i false true,
        reaching_step a u v i true false,
        reaching_step a u v i true true,
      )

  pub four_product : (n : ℕ) → both (λ c. both (reaching a u v n c)) * 2 ^ exponent n ≡ 2 ^ n * product n factor
  unfolding exponent halvings count total product Through
  four_product zero = simp reaching_start
  four_product (suc i) =
      ap (λ (z : ℕ). z * 2 ^ exponent (suc i)) (four_suc i)
      ∙ mul_right_comm (through i) 2 (2 ^ exponent (suc i))
      ∙ ap (λ (z : ℕ). z * 2) (holds i).0
      ∙ mul_right_comm (2 ^ i) (product (suc i) factor) 2
      ∙ ap (λ (z : ℕ). z * product (suc i) factor) (sym (pow-suc 2 i))
