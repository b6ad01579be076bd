-- The number of words that fit is a product over the chains (source document 000, Theorem 2).
use mathlib.Core.Path.{◌≡◌, refl, sym, ap, subst, ◌∙◌}
use mathlib.Core.Bool.{Bool, true, false, not, ◌&&◌, xor, cond}
use Prim.Native.Nat.{ℕ, zero, suc, ◌+◌, ◌*◌, ◌^◌, ◌<◌, ◌≤◌}
use native.Mathlib.Nat.{mul-pos}
use native.Mathlib.Omega.{arith}
use lib.Dec.{ltb}
use lib.Pow.{pow_pos}
use borrow.Author.Tests.{lt-ltb}
use Rattle.words.specs.Words.{bit, bit_below}
use Rattle.words.specs.Below.{total}
use Rattle.differential.specs.Constant.{state, is11, halvings, quiet, is_chain, chain_t, chain_p}
use Rattle.differential.specs.Constant.{constant_fitting}
use Rattle.differential.specs.Product.{product, chain_k, chain_factor, ProductLaw}
use Rattle.differential.proofs.CarryPairs.{reaching_all}
use Rattle.differential.proofs.ChainLaws.{chain_p_part, chain_t_le, part}
use Rattle.differential.proofs.Transitions.{share}
use Rattle.differential.proofs.Positions.{exponent, factor, four_product}
use Rattle.differential.proofs.Powers.{product_cong, factors_pos, right_pos}

-- A factor that is not 0 is p for a chain, and 1 elsewhere: with K = 0 T or 1 - T is at most 1.
factor_chain : (a u v i : ℕ) → 0 < factor a u v i → factor a u v i ≡ chain_factor a u v i
unfolding factor share chain_factor is_chain
factor_chain a u v i =
    rw (chain_p_part a u v (quiet u v i) i)
    (at (is11 (state u v i)) (not (bit_below 1 u i) && (not (bit_below 1 v i) && xor (bit u i) (bit v i)))
    (xor (bit_below 1 a i) (xor (bit u i) (bit v i))) (quiet u v i) (chain_t a (quiet u v i) i) (chain_t_le a (quiet u v i) i))
  where
    at : (s w c : Bool) (k t : ℕ) → t ≤ 2 ^ k → 0 < cond s (part c (2 ^ k) t) (cond w 0 1)
        → cond s (part c (2 ^ k) t) (cond w 0 1) ≡ cond (s && ltb 0 k) (part c (2 ^ k) t) 1
    at false true c k t l h = absurd (omega arith)
    at false false c k t l h = refl
    at true w true zero t l h = omega arith
    at true w false zero t l h = omega arith
    at true w c (suc k) t l h = ap (λ (b : Bool). cond b (part c (2 ^ suc k) t) 1) (sym (lt-ltb 0 (suc k) (omega arith)))

module _ (n a u v : ℕ) (word : v < 2 ^ n) (some : 0 < constant_fitting n a u v) where
  with_factors : constant_fitting n a u v * 2 ^ exponent a u v n ≡ 2 ^ n * product n (factor a u v)
  with_factors = ap (λ (z : ℕ). z * 2 ^ exponent a u v n) (sym (reaching_all a u v n word)) ∙ four_product a u v n

  factor_pos : (i : ℕ) → i < n → 0 < factor a u v i
  factor_pos = factors_pos n (factor a u v) (right_pos (2 ^ n) (product n (factor a u v)) some_product)
    where
      some_product : 0 < 2 ^ n * product n (factor a u v)
      some_product = subst (λ (z : ℕ). 0 < z) with_factors (mul-pos some (pow_pos (exponent a u v n)))

  pub chain_factor_pos : (i : ℕ) → i < n → 0 < chain_factor a u v i
  chain_factor_pos i l = subst (λ (z : ℕ). 0 < z) (factor_chain a u v i (factor_pos i l)) (factor_pos i l)

  pub chain_p_pos : (i : ℕ) → i < n → is_chain u v i ≡ true → 0 < chain_p a u v (quiet u v i) i
  unfolding chain_factor
  chain_p_pos i l e = subst (λ (t : Bool). 0 < cond t (chain_p a u v (quiet u v i) i) 1) e (chain_factor_pos i l)

pub product_law : ProductLaw
unfolding exponent
product_law n a u v word some =
    with_factors n a u v word some
    ∙ ap (λ (z : ℕ). 2 ^ n * z)
    (product_cong n (factor a u v) (chain_factor a u v) (λ i l. factor_chain a u v i (factor_pos n a u v word some i l)))
