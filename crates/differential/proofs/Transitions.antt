-- What one position makes of the words that go through it. Only carries that differ by u XOR v can go on, so that two numbers
-- matter: g words with the first run's carry 0, and h with 1. Each law is a table over the bits at the position.
use mathlib.Core.Path.{◌≡◌, refl, ap, ◌∙◌}
use mathlib.Core.Bool.{Bool, true, false, not, ◌&&◌, xor, cond}
use Prim.Native.Nat.{ℕ, suc, ◌+◌, ◌*◌, ◌-◌, ◌^◌, ◌≤◌}
use native.Mathlib.Nat.{add_comm, add-mul, add-zero, mul-add, mul_assoc, mul_comm, mul_left_comm, mul-mul-mul_comm}
use native.Mathlib.Nat.{mul-one, mul_right_comm, pow-suc, zero-add, zero-mul}
use native.Mathlib.Omega.{arith}
use lib.Pow.{pow-add}
use Rattle.words.specs.Words.{value}
use Rattle.differential.proofs.CarryPairs.{goes, stepped}
use Rattle.differential.proofs.ChainLaws.{part}

-- the words that come to carries that differ by d
unfoldable pub differing : (a u v d : Bool) → ℕ → ℕ → ℕ
differing a false false d g h = cond d 0 ((g + h) * 2)
differing a false true d g h = g + h
differing a true false d g h = g + h
differing a true true d g h = cond (xor a d) h g * 2

-- the words that come to two carries 1: where a difference comes in, each word's carry is a's bit
unfoldable pub carrying : (a u v : Bool) → ℕ → ℕ → ℕ
carrying a u v g h = cond (not u && not v) (h + value a * (g + h)) (value a * differing a u v false g h)

module _ (f : Bool → Bool → ℕ) where
  pub differing_step : (a u v d : Bool)
      → stepped f a u v false d + stepped f a u v true (not d) ≡ differing a u v d (f false (xor u v)) (f true (not (xor u v)))
  unfolding goes xor differing
  differing_step true true true true = omega arith
  differing_step true true true false = omega arith
  differing_step true true false true = omega arith
  differing_step true true false false = omega arith
  differing_step true false true true = omega arith
  differing_step true false true false = omega arith
  differing_step true false false true = omega arith
  differing_step true false false false = omega arith
  differing_step false true true true = omega arith
  differing_step false true true false = omega arith
  differing_step false true false true = omega arith
  differing_step false true false false = omega arith
  differing_step false false true true = omega arith
  differing_step false false true false = omega arith
  differing_step false false false true = omega arith
  differing_step false false false false = omega arith

  pub carrying_step : (a u v : Bool)
      → stepped f a u v true true ≡ carrying a u v (f false (xor u v)) (f true (not (xor u v)))
  unfolding goes xor differing carrying
  carrying_step true true true = omega arith
  carrying_step true true false = omega arith
  carrying_step true false true = omega arith
  carrying_step true false false = omega arith
  carrying_step false true true = omega arith
  carrying_step false true false = omega arith
  carrying_step false false true = omega arith
  carrying_step false false false = omega arith

-- whatever the carries differ by, each word goes on with both values of the operand's bit
pub differing_all : (a u v : Bool) (g h : ℕ) → differing a u v false g h + differing a u v true g h ≡ (g + h) * 2
unfolding differing xor
differing_all a false false g h = omega arith
differing_all a false true g h = omega arith
differing_all a true false g h = omega arith
differing_all true true true g h = omega arith
differing_all false true true g h = omega arith

-- ---- products

-- The factor of a state. The bits a, u and v are those one place below it, d is the XOR of the differences' bits at it. A state 11*
-- has T or 2 ^ K - T; a state 001 has 0: its carries are equal and would have to differ.
unfoldable pub share : (a u v d : Bool) → (b t : ℕ) → ℕ
share a u v d b t = cond (u && v) (part (xor a d) b t) (cond (not u && (not v && d)) 0 1)

-- Where t of b words have the carry 1, those without it are the rest.
rest : (g h b t : ℕ) → t ≤ b → h * b ≡ t * (g + h) → g * b ≡ (b - t) * (g + h)
rest g h b t l e = at (b - t) (omega arith)
  where
    at : (s : ℕ) → b ≡ s + t → g * b ≡ s * (g + h)
    at s k =
        omega
        (arith, ap (λ (z : ℕ). z * (g + h)) k, add-mul s t (g + h), mul-add b g h, mul_comm b g, mul_comm b h)

-- ---- one position more

module _ (g h w y : ℕ) (words : (g + h) * 2 ^ w ≡ y) where
  -- a difference that comes in takes half of the words
  half : (g + h) * 2 ^ (w + (1 + 0)) ≡ y * 2 * 1
  half = ap (λ (z : ℕ). (g + h) * z) (pow-add 2 w 1) ∙ omega (arith, mul_assoc (g + h) (2 ^ w) 2)

  -- a chain of k states takes all but s of 2 ^ k parts of them
  parts : (m s k : ℕ) → m * 2 ^ k ≡ s * (g + h) → m * 2 * 2 ^ (w + (0 + k)) ≡ y * 2 * s
  parts m s k e =
      ap (λ (z : ℕ). m * 2 * 2 ^ z) (ap (λ (z : ℕ). w + z) (zero-add k) ∙ add_comm w k)
      ∙ ap (λ (z : ℕ). m * 2 * z) (pow-add 2 k w)
      ∙ mul-mul-mul_comm m 2 (2 ^ k) (2 ^ w)
      ∙ ap (λ (z : ℕ). z * (2 * 2 ^ w)) e
      ∙ regroup s (g + h) 2 (2 ^ w)
      ∙ ap (λ (z : ℕ). z * 2 * s) words
    where
      regroup : (p q r t : ℕ) → p * q * (r * t) ≡ q * t * r * p
      regroup p q r t = simp (mul_assoc, mul_comm, mul_left_comm)

-- the words that go through
pub differing_share : (a u v d : Bool) (g h k t w y : ℕ) → t ≤ 2 ^ k
    → (xor u v ≡ false → h * 2 ^ k ≡ t * (g + h)) → (g + h) * 2 ^ w ≡ y
    → differing a u v d g h * 2 ^ (w + (value (xor u v) + cond (u && v) k 0)) ≡ y * 2 * share a u v d (2 ^ k) t
unfolding differing share xor
differing_share a false false true g h k t w y l e i = omega (arith, zero-mul (2 ^ (w + (0 + 0))))
differing_share a false false false g h k t w y l e i =
    ap (λ (z : ℕ). (g + h) * 2 * 2 ^ z) (add-zero w) ∙ omega (arith, mul_right_comm (g + h) 2 (2 ^ w))
differing_share a false true d g h k t w y l e i = half g h w y i
differing_share a true false d g h k t w y l e i = half g h w y i
differing_share a true true d g h k t w y l e i = at (xor a d)
  where
    at : (c : Bool) → cond c h g * 2 * 2 ^ (w + (0 + k)) ≡ y * 2 * part c (2 ^ k) t
    at true = parts g h w y i h t k (e refl)
    at false = parts g h w y i g (2 ^ k - t) k (rest g h (2 ^ k) t l (e refl))

-- the words with two carries 1, among those with equal carries
pub carrying_share : (a u v : Bool) (g h k t : ℕ) → (xor u v ≡ false → h * 2 ^ k ≡ t * (g + h))
    → carrying a u v g h * 2 ^ cond (not u && not v) (suc k) 0
    ≡ cond (not u && not v) (t + value a * 2 ^ k) (value a) * differing a u v false g h
unfolding carrying differing xor
carrying_share a false true g h k t e = mul-one (value a * differing a false true false g h)
carrying_share a true false g h k t e = mul-one (value a * differing a true false false g h)
carrying_share a true true g h k t e = mul-one (value a * differing a true true false g h)
carrying_share a false false g h k t e =
    ap (λ (z : ℕ). (h + value a * (g + h)) * z) (pow-suc 2 k) ∙ doubled (value a) (g + h) (2 ^ k) (e refl)
  where
    doubled : (c s p : ℕ) → h * p ≡ t * s → (h + c * s) * (p * 2) ≡ (t + c * p) * (s * 2)
    doubled c s p f =
        omega (
          arith,
          mul_assoc (h + c * s) p 2,
          add-mul h (c * s) p,
          mul_assoc (t + c * p) s 2,
          add-mul t (c * p) s,
          mul_right_comm c s p,
        )
