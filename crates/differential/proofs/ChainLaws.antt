-- Runs of states 000, and the numbers K, T and p of the chains.
use mathlib.Core.Path.{◌≡◌, refl, ap, ap₂, ◌∙◌}
use mathlib.Core.Bool.{Bool, true, false, ◌&&◌, xor, cond}
use Prim.Native.Nat.{ℕ, zero, suc, ◌+◌, ◌*◌, ◌-◌, ◌^◌, ◌≤◌, ◌<◌}
use native.Mathlib.Nat.{zero-add}
use native.Mathlib.Omega.{arith}
use lib.Dec.{ltb}
use lib.Pow.{pow_mono}
use borrow.Author.Tests.{lt-ltb}
use Rattle.words.specs.Words.{value, bit, bit_below, from_bits}
use Rattle.words.specs.Below.{count, total}
use Rattle.words.proofs.Below.{count_le}
use Rattle.words.proofs.Bits.{below_suc, bit_below_suc, from_bits_cong, from_bits_lt, from_bits_top, value_lt}
use Rattle.differential.specs.Constant.{State, state, is000, is11, halvings, quiet, is_chain, chains, chain_t, chain_p}
use Rattle.differential.specs.Product.{chain_k}

-- ---- T and p

pub chain_t_zero : (a i : ℕ) → chain_t a 0 (suc i) ≡ value (bit_below 1 a i)
unfolding chain_t from_bits
chain_t_zero a i = zero-add (value (bit_below 2 a (suc i))) ∙ ap value (bit_below_suc 1 a i)

-- with one state 000 more, T gets the next bit of a on top
pub chain_t_suc : (a k i : ℕ) → chain_t a (suc k) (suc i) ≡ chain_t a k i + value (bit_below 1 a i) * 2 ^ k
unfolding chain_t
chain_t_suc a k i =
    omega (
      arith,
      from_bits_top k (λ j. bit_below (suc k + 1 - j) a (suc i)),
      from_bits_cong k (λ j. bit_below (suc k + 1 - j) a (suc i)) (λ j. bit_below (k + 1 - j) a i)
          (λ j l. down (suc k + 1 - j) (k + 1 - j) (omega arith)),
      ap (λ (t : Bool). value t * 2 ^ k) (down (suc k + 1 - k) 1 (omega arith)),
      ap value (down (suc k + 2) (k + 2) (omega arith)),
    )
  where
    down : (m j : ℕ) → m ≡ suc j → bit_below m a (suc i) ≡ bit_below j a i
    down m j e = ap (λ (z : ℕ). bit_below z a (suc i)) e ∙ bit_below_suc j a i

pub chain_t_le : (a k i : ℕ) → chain_t a k i ≤ 2 ^ k
unfolding chain_t
chain_t_le a k i = omega (arith, from_bits_lt k (λ j. bit_below (k + 1 - j) a i), value_lt (bit_below (k + 2) a i))

-- t of b, or the rest
abbrev pub part : Bool → ℕ → ℕ → ℕ
part c b t = cond c t (b - t)

part_le : (c : Bool) (b t : ℕ) → t ≤ b → part c b t ≤ b
part_le true b t l = l
part_le false b t l = omega arith

pub chain_p_part : (a u v k i : ℕ)
    → chain_p a u v k i ≡ part (xor (bit_below 1 a i) (xor (bit u i) (bit v i))) (2 ^ k) (chain_t a k i)
unfolding chain_p
chain_p_part a u v k i = refl

pub chain_p_le : (a u v k i : ℕ) → chain_p a u v k i ≤ 2 ^ k
chain_p_le a u v k i =
    rw (chain_p_part a u v k i)
    (part_le (xor (bit_below 1 a i) (xor (bit u i) (bit v i))) (2 ^ k) (chain_t a k i) (chain_t_le a k i))

-- In a type of w bits, for every K below w, neither T nor p passes 2 ^ (w - 1), so that the type holds both.
module _ (w a k i : ℕ) (l : k < w) where
  room : 2 ^ k ≤ 2 ^ (w - 1)
  room = pow_mono (omega arith)

  pub chain_t_fits : chain_t a k i ≤ 2 ^ (w - 1)
  chain_t_fits = omega (arith, chain_t_le a k i, room)

  pub chain_p_fits : (u v : ℕ) → chain_p a u v k i ≤ 2 ^ (w - 1)
  chain_p_fits u v = omega (arith, chain_p_le a u v k i, room)

-- ---- states, and runs of states 000

-- above position 0 a state has the bits at the position below
pub state_suc : (u v i : ℕ)
    → state u v (suc i) ≡ record { u_below = bit u i; v_below = bit v i; differ = xor (bit u (suc i)) (bit v (suc i)) }
state_suc u v i =
    ap₂ (λ (p q : Bool). record { u_below = p; v_below = q; differ = xor (bit u (suc i)) (bit v (suc i)) })
    (below_suc u i) (below_suc v i)

pub quiet_le : (u v i : ℕ) → quiet u v i ≤ i
unfolding quiet
quiet_le u v zero = omega arith
quiet_le u v (suc i) = at (is000 (state u v i)) (quiet_le u v i)
  where
    at : (t : Bool) → quiet u v i ≤ i → cond t (suc (quiet u v i)) 0 ≤ suc i
    at true l = omega arith
    at false l = omega arith

pub chains_le : (n u v : ℕ) → chains n u v ≤ n
unfolding chains
chains_le n u v = count_le n (is_chain u v)

-- T, from position to position
pub chain_t_next : (a u v i : ℕ)
    → chain_t a (quiet u v (suc i)) (suc i)
    ≡ cond (is000 (state u v i)) (chain_t a (quiet u v i) i + value (bit_below 1 a i) * 2 ^ quiet u v i) (value (bit_below 1 a i))
unfolding quiet
chain_t_next a u v i = at (is000 (state u v i))
  where
    at : (t : Bool)
        → chain_t a (cond t (suc (quiet u v i)) 0) (suc i)
        ≡ cond t (chain_t a (quiet u v i) i + value (bit_below 1 a i) * 2 ^ quiet u v i) (value (bit_below 1 a i))
    at true = chain_t_suc a (quiet u v i) i
    at false = chain_t_zero a i

-- ---- the lengths of the chains

-- a run of no states 000 has length 0
pub chain_k_11 : (u v i : ℕ) → chain_k u v i ≡ cond (is11 (state u v i)) (quiet u v i) 0
unfolding chain_k is_chain
chain_k_11 u v i = at (is11 (state u v i)) (quiet u v i)
  where
    at : (t : Bool) (k : ℕ) → cond (t && ltb 0 k) k 0 ≡ cond t k 0
    at true zero = refl
    at true (suc k) = ap (λ (b : Bool). cond b (suc k) 0) (lt-ltb 0 (suc k) (omega arith))
    at false k = refl

-- A state is a halving, ends a run of k, or makes it longer, and no two of these.
one_of_three : (s : State) (k : ℕ)
    → value (xor s.u_below s.v_below) + cond (is11 s) k 0 + cond (is000 s) (suc k) 0 ≤ suc k
unfolding xor
one_of_three s k = at s.u_below s.v_below s.differ
  where
    of : Bool → Bool → Bool → State
    of p q r = record { u_below = p; v_below = q; differ = r }

    at : (p q r : Bool) → value (xor p q) + cond (is11 (of p q r)) k 0 + cond (is000 (of p q r)) (suc k) 0 ≤ suc k
    at true true r = omega arith
    at true false r = omega arith
    at false true r = omega arith
    at false false true = omega arith
    at false false false = omega arith

-- so that the halvings and the lengths of the chains are together no more than the positions
pub lengths_le : (n u v : ℕ) → halvings n u v + total n (chain_k u v) + quiet u v n ≤ n
unfolding halvings count total quiet
lengths_le zero u v = omega arith
lengths_le (suc n) u v = omega (arith, lengths_le n u v, chain_k_11 u v n, one_of_three (state u v n) (quiet u v n))
