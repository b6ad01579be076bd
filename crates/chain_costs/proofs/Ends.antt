-- Chains by the ones of words: where they end, how long they are, and what they cost from the highest down.
use mathlib.Core.Path.{◌≡◌, refl, sym, ap, subst, ◌∙◌}
use mathlib.Core.Bool.{Bool, true, false, not, ◌&&◌, ◌||◌, xor, cond, and-eq-true_iff}
use Prim.Native.Nat.{ℕ, zero, suc, ◌+◌, ◌-◌, ◌*◌, ◌%◌, ◌^◌, ◌≤◌, ◌<◌}
use native.Mathlib.Nat.{mod-eq_of_lt, mod-lt}
use native.Mathlib.Numerals.{add-one}
use native.Mathlib.Omega.{arith}
use lib.Bits.{bit_and, bit_or, bit_xor, and_mask, mask_lt}
use lib.Count.{ones, count_leading_zeros, leading_unique}
use lib.Dec.{ltb}
use lib.Pow.{mod-mod-pow, pow_mono, pow_pos}
use borrow.Author.Tests.{lt-ltb, ltb-true}
use mir.Syntax.{w32}
use mir.Val.{Fits}
use Rattle.words.specs.Words.{value, bit, bit_below}
use Rattle.words.specs.Below.{total}
use Rattle.words.proofs.Below.{count_cong}
use Rattle.words.proofs.Bits.{below_suc, below_zero, bit-and, bit_mod, bit-or, bit_shl, bit-xor, mod_bit}
use Rattle.words.proofs.Ones.{ones_count}
use Rattle.differential.specs.Constant.{state, is000, is11, quiet, constant_fitting, is_chain, chains, chain_p}
use Rattle.differential.specs.Unit.{unit}
use Rattle.differential.specs.Logarithm.{highest_one, logarithm}
use Rattle.differential.specs.Weight.{chain_cost}
use Rattle.differential.proofs.ChainLaws.{quiet_le}
use Rattle.differential.proofs.Logarithms.{highest_one_low, highest_one_high}
use Rattle.differential.proofs.Powers.{exponent_lt}
use Rattle.differential.proofs.Product.{chain_p_pos}
use Rattle.differential.proofs.Weights.{cost_is, cost_least, costs_le}
use Rattle.chain_costs.specs.Ends.{Not000, ChainEnds}

-- ---- the words

pub not_000_word : (u v : ℕ) → Not000 u v (bit_or (bit_or (u * 2 % 2 ^ 64) (v * 2 % 2 ^ 64)) (bit_xor u v))
not_000_word u v =
    record { each = λ i l. simp (bit-or, bit-xor, bit_shl 64 1 u i l, bit_shl 64 1 v i l) (some (bit_below 1 u i) (bit_below 1 v i) (xor (bit u i) (bit v i))) }
  where
    some : (p q r : Bool) → ((p || q) || r) ≡ not (not p && (not q && not r))
    some true q r = refl
    some false true r = refl
    some false false true = refl
    some false false false = refl

-- the states 11* that have no state other than 000 directly below, where w has those that are not 000
abbrev pub ends_word : ℕ → ℕ → ℕ → ℕ
ends_word u v w =
    bit_xor (bit_and (u * 2 % 2 ^ 64) (v * 2 % 2 ^ 64)) (bit_and (bit_and (u * 2 % 2 ^ 64) (v * 2 % 2 ^ 64)) (w * 2 % 2 ^ 64))

module _ (u v w : ℕ) (h : Not000 u v w) where
  end_bit : (i : ℕ) → i < 64 → bit (ends_word u v w) i ≡ is_chain u v i
  unfolding is_chain quiet xor
  end_bit zero l = simp (bit-and, bit-xor, bit_shl 64 1 u 0 l, below_zero u)
  end_bit (suc i) l =
      simp (bit-and, bit-xor, bit_shl 64 1 u (suc i) l, bit_shl 64 1 v (suc i) l, bit_shl 64 1 w (suc i) l, below_suc w i, h.each i (omega arith))
      (at (is11 (state u v (suc i))) (is000 (state u v i)))
    where
      at : (s t : Bool) → xor s (s && not t) ≡ (s && ltb 0 (cond t (suc (quiet u v i)) 0))
      at false t = refl
      at true false = refl
      at true true = sym (lt-ltb 0 (suc (quiet u v i)) (omega arith))

  pub ends_word_lem : (n : ℕ) → n ≤ 64 → ChainEnds n u v (bit_and (ends_word u v w) (2 ^ n - 1))
  ends_word_lem n l =
      record {
        each = λ i m. ap (λ (x : ℕ). bit x i) (and_mask (ends_word u v w) n) ∙ bit_mod (ends_word u v w) n i m ∙ end_bit i (omega arith);
        below = mask_lt (ends_word u v w) n;
      }

  -- under the run of states 000 that stands directly below position i there are m states, of which the highest is not 000
  run : (i m : ℕ) → i ≤ 64 → quiet u v i + m ≡ i → (w % 2 ^ i < 2 ^ m) × (2 ^ m ≤ 2 * (w % 2 ^ i) + 1)
  unfolding quiet
  run zero m l e = subst (λ (k : ℕ). (w % 1 < 2 ^ k) × (2 ^ k ≤ 2 * (w % 1) + 1)) none (mod-lt w (omega arith), omega arith)
    where
      none : 0 ≡ m
      none = omega arith
  run (suc i) m l e = at (is000 (state u v i)) refl e (run i m (omega arith))
    where
      at : (t : Bool) → is000 (state u v i) ≡ t → cond t (suc (quiet u v i)) 0 + m ≡ suc i
          → (quiet u v i + m ≡ i → (w % 2 ^ i < 2 ^ m) × (2 ^ m ≤ 2 * (w % 2 ^ i) + 1))
          → (w % 2 ^ suc i < 2 ^ m) × (2 ^ m ≤ 2 * (w % 2 ^ suc i) + 1)
      at true f d shorter =
          let low : w % 2 ^ suc i ≡ w % 2 ^ i = omega (arith, mod_bit w i, ap (λ (t : Bool). value t * 2 ^ i) (h.each i l ∙ ap not f)) in
          rw low (shorter (omega arith))
      at false f d shorter =
          let top : suc i ≡ m = omega arith in
          subst (λ (k : ℕ). (w % 2 ^ suc i < 2 ^ k) × (2 ^ k ≤ 2 * (w % 2 ^ suc i) + 1)) top
          (mod-lt w (pow_pos (suc i)), omega (arith, mod_bit w i, ap (λ (t : Bool). value t * 2 ^ i) (h.each i l ∙ ap not f)))

  pub run_zeros : (i : ℕ) {m : ℕ} → i ≤ 64 → m ≡ 2 ^ i - 1 → i + count_leading_zeros 64 (bit_and w m) ≡ 64 + quiet u v i
  run_zeros i {m} l e =
      let rest : ℕ = i - quiet u v i in
      let gap = run i rest l (omega (arith, quiet_le u v i)) in
      omega (
        arith,
        quiet_le u v i,
        ap (λ (x : ℕ). count_leading_zeros 64 (bit_and w x)) e,
        ap (count_leading_zeros 64) (and_mask w i),
        leading_unique 64 (w % 2 ^ i) (64 - rest) rest (omega arith) gap.0 gap.1,
      )

-- a chain has one state 000 at least
pub chain_some : (u v i : ℕ) → is_chain u v i ≡ true → 0 < quiet u v i
unfolding is_chain
chain_some u v i e = ltb-true 0 (quiet u v i) ((and-eq-true_iff (is11 (state u v i)) (ltb 0 (quiet u v i))).0 e).1

-- the cost of a chain, as the code computes it: rules for `search`
module _ (a u v i : ℕ) {k whole known p : ℕ}
    (run : k ≡ quiet u v i) (e : whole ≡ unit * k) (f : known ≡ logarithm p) (g : p ≡ chain_p a u v k i) where
  pub chain_least : 0 < chain_p a u v (quiet u v i) i → known ≤ whole
  chain_least some = cost_least a u v k i e f g (rw run some)

  pub chain_costs : is_chain u v i ≡ true → whole - known ≡ chain_cost a u v i
  unfolding chain_cost
  chain_costs chain = cost_is a u v k i e f g ∙ rw (chain, run)

-- ---- the chains from the highest down

-- what is left: the ones of the ends below a bound, and the cost of the chains below it
pub record Remaining (n a u v ends cost rest : ℕ) : Type 0 where
  pub bound : ℕ
  pub bound_le : bound ≤ n
  pub rest_is : rest ≡ ends % 2 ^ bound
  pub cost_is : cost + total bound (chain_cost a u v) ≡ total n (chain_cost a u v)

-- so that it is a word of any w bits that are n or more
pub remaining_lt : {n a u v ends cost rest : ℕ} → Remaining n a u v ends cost rest → (w : ℕ) → n ≤ w → rest < 2 ^ w
remaining_lt {ends = ends} k w l =
    omega (arith, k.rest_is, mod-lt ends (pow_pos k.bound), pow_mono {i = k.bound} {j = w} (omega (arith, k.bound_le)))

module _ (n a u v ends : ℕ) (h : ChainEnds n u v ends) where
  pub ends_count : ones ends ≡ chains n u v
  unfolding chains
  ends_count = ap ones (sym (mod-eq_of_lt h.below)) ∙ ones_count n ends ∙ count_cong n (bit ends) (is_chain u v) h.each

  -- no chain ends from c on, up to c + d
  passed : (c d b : ℕ) → b ≡ c + d → b ≤ n → ends % 2 ^ b < 2 ^ c → total b (chain_cost a u v) ≡ total c (chain_cost a u v)
  unfolding total chain_cost
  passed c zero b e l less = ap (λ (k : ℕ). total k (chain_cost a u v)) here
    where
      here : b ≡ c
      here = omega arith
  passed c (suc d) b e l less = ap (λ (k : ℕ). total k (chain_cost a u v)) next ∙ at (bit ends (c + d)) refl (passed c d (c + d) refl (omega arith))
    where
      next : b ≡ suc (c + d)
      next = omega arith

      low : ends % 2 ^ b ≡ value (bit ends (c + d)) * 2 ^ (c + d) + ends % 2 ^ (c + d)
      low = ap (λ (k : ℕ). ends % 2 ^ k) next ∙ mod_bit ends (c + d)

      at : (t : Bool) → bit ends (c + d) ≡ t
          → (ends % 2 ^ (c + d) < 2 ^ c → total (c + d) (chain_cost a u v) ≡ total c (chain_cost a u v))
          → total (suc (c + d)) (chain_cost a u v) ≡ total c (chain_cost a u v)
      at true f shorter = absurd (omega (arith, low, ap (λ (t : Bool). value t * 2 ^ (c + d)) f, pow_mono {i = c} {j = c + d} (omega arith)))
      at false f shorter =
          let none : is_chain u v (c + d) ≡ false = sym (h.each (c + d) (omega arith)) ∙ f in
          rw none
          (omega (arith, shorter (omega (arith, low, ap (λ (t : Bool). value t * 2 ^ (c + d)) f))))

  pub all_remaining : Remaining n a u v ends 0 ends
  all_remaining = record { bound = n; bound_le = omega arith; rest_is = sym (mod-eq_of_lt h.below); cost_is = omega arith }

  pub none_remaining : (cost : ℕ) → Remaining n a u v ends cost 0 → cost ≡ total n (chain_cost a u v)
  unfolding total
  none_remaining cost k = omega (arith, k.cost_is, passed 0 k.bound k.bound (omega arith) k.bound_le (omega (arith, k.rest_is)))

-- at the highest one of what is left a chain ends: rules for `search`
module _ (n a u v ends cost rest i : ℕ)
    (h : ChainEnds n u v ends) (k : Remaining n a u v ends cost rest) (some : rest ≡ 0 → ⊥) (e : i ≡ highest_one rest) where
  low : 2 ^ i ≤ rest
  low = rw e (highest_one_low rest (omega arith))

  high : rest < 2 ^ suc i
  high = rw (← add-one i, e) (highest_one_high rest (omega arith))

  within : i < k.bound
  within = exponent_lt i k.bound (omega (arith, low, k.rest_is, mod-lt ends (pow_pos k.bound)))

  set : bit rest i ≡ true
  set = at (bit rest i) refl
    where
      at : (t : Bool) → bit rest i ≡ t → t ≡ true
      at true f = refl
      at false f = absurd (omega (arith, low, mod-eq_of_lt high, mod_bit rest i, ap (λ (t : Bool). value t * 2 ^ i) f, mod-lt rest (pow_pos i)))

  pub end_below : (m : ℕ) → n ≤ m → i < m
  end_below m l = omega (arith, within, k.bound_le)

  pub end_chain : is_chain u v i ≡ true
  end_chain =
      sym (h.each i (end_below n (omega arith)))
      ∙ sym (bit_mod ends k.bound i within)
      ∙ ap (λ (x : ℕ). bit x i) (sym k.rest_is)
      ∙ set

  pub end_least : 1 ≤ i
  end_least = omega (arith, chain_some u v i end_chain, quiet_le u v i)

  pub end_pos : v < 2 ^ n → 0 < constant_fitting n a u v → 0 < chain_p a u v (quiet u v i) i
  end_pos l fit = chain_p_pos n a u v l fit i (end_below n (omega arith)) end_chain

  after : cost + chain_cost a u v i + total i (chain_cost a u v) ≡ total n (chain_cost a u v)
  unfolding total
  after =
      omega (
        arith,
        k.cost_is,
        passed n a u v ends h (suc i) (k.bound - suc i) k.bound (omega (arith, within)) k.bound_le (rw (← k.rest_is) high),
      )

  pub end_fits : {r : ℕ} → r ≡ chain_cost a u v i → n ≤ 32 → Fits w32 (cost + r)
  end_fits f l = record { fits = omega (arith, after, costs_le n a u v) }

  module _ {m : ℕ} (g : m ≡ 2 ^ i - 1) where
    masked : bit_and rest m ≡ rest % 2 ^ i
    masked = ap (bit_and rest) g ∙ and_mask rest i

    pub end_less : bit_and rest m < rest
    end_less = omega (arith, masked, low, mod-lt rest (pow_pos i))

    pub end_remaining : {r : ℕ} → r ≡ chain_cost a u v i → Remaining n a u v ends (cost + r) (bit_and rest m)
    end_remaining f =
        record {
          bound = i;
          bound_le = omega (arith, end_below n (omega arith));
          rest_is = masked ∙ ap (λ (x : ℕ). x % 2 ^ i) (k.rest_is ∙ ap (λ (b : ℕ). ends % 2 ^ b) split) ∙ mod-mod-pow ends (k.bound - i) i;
          cost_is = omega (arith, after);
        }
      where
        split : k.bound ≡ k.bound - i + i
        split = omega (arith, within)

pub ruleset ending = (end_below, end_chain, end_least, end_pos, end_fits, end_less, end_remaining)
