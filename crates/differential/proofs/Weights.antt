-- The weight of adding a constant: the bounds of document 01, by the product law and the logarithm's bounds.
use mathlib.Core.Path.{◌≡◌, ap}
use mathlib.Core.Bool.{Bool, true, false, cond}
use Prim.Native.Nat.{ℕ, zero, suc, ◌-◌, ◌*◌, ◌^◌, ◌<◌, ◌≤◌}
use native.Mathlib.Omega.{arith}
use Rattle.words.specs.Below.{total}
use Rattle.differential.specs.Constant.{constant_fitting, halvings, quiet, is_chain, chains, chain_p}
use Rattle.differential.specs.Product.{chain_k, chain_factor}
use Rattle.differential.specs.Unit.{unit, slack}
use Rattle.differential.specs.Logarithm.{logarithm}
use Rattle.differential.specs.Weight.{chain_cost, constant_weight}
use Rattle.differential.specs.Demand2.{CountedRight}
use Rattle.differential.proofs.ChainLaws.{chain_p_le, lengths_le}
use Rattle.differential.proofs.Logarithms.{logarithm_low, logarithm_high}
use Rattle.differential.proofs.Product.{chain_factor_pos, product_law}
use Rattle.differential.proofs.WeightBound.{Bounded, A-le, bounded}

-- for each chain A is at most K whole bits, so that the subtraction of A from them is exact
pub logarithm_le : (a u v k i : ℕ) → 0 < chain_p a u v k i → logarithm (chain_p a u v k i) ≤ unit * k
logarithm_le a u v k i some = A-le unit slack logarithm logarithm_low logarithm_high (chain_p a u v k i) k some (chain_p_le a u v k i)

-- K whole bits less A, as the code computes it: rules for `search`
module _ (a u v k i : ℕ) {whole known p : ℕ} (e : whole ≡ unit * k) (f : known ≡ logarithm p) (g : p ≡ chain_p a u v k i) where
  pub cost_least : 0 < chain_p a u v k i → known ≤ whole
  cost_least some = omega (arith, ap logarithm g, logarithm_le a u v k i some)

  pub cost_is : whole - known ≡ unit * k - logarithm (chain_p a u v k i)
  cost_is = omega (arith, ap logarithm g)

pub ruleset costing = (cost_least, cost_is)

-- a chain costs at most a whole bit for each of its states 000, and so all chains at most a bit for each position
costs_lengths : (n a u v : ℕ) → total n (chain_cost a u v) ≤ unit * total n (chain_k u v)
unfolding total chain_cost chain_k
costs_lengths zero a u v = omega arith
costs_lengths (suc n) a u v = omega (arith, costs_lengths n a u v, at (is_chain u v n))
  where
    k : ℕ
    k = quiet u v n

    l : ℕ
    l = logarithm (chain_p a u v k n)

    at : (t : Bool) → cond t (unit * k - l) 0 ≤ unit * cond t k 0
    at true = omega arith
    at false = omega arith

pub costs_le : (n a u v : ℕ) → total n (chain_cost a u v) ≤ unit * n
costs_le n a u v = omega (arith, costs_lengths n a u v, lengths_le n u v)

module _ (n a u v : ℕ) (word : v < 2 ^ n) (some : 0 < constant_fitting n a u v) where
  bounds : Bounded unit n (constant_fitting n a u v) (constant_weight n a u v) (slack * chains n u v)
  unfolding constant_weight chain_cost chains chain_k chain_factor
  bounds =
      bounded unit slack logarithm logarithm_low logarithm_high
      n (is_chain u v) (quiet u v) (λ i. chain_p a u v (quiet u v i) i)
      (chain_factor_pos n a u v word some) (λ i. chain_p_le a u v (quiet u v i) i)
      (constant_fitting n a u v) (halvings n u v) (product_law n a u v word some) (omega (arith, lengths_le n u v))

  pub constant_right_lem : CountedRight n (constant_fitting n a u v) (constant_weight n a u v) (chains n u v)
  constant_right_lem = record { some = some; weight_most = bounds.most; low = bounds.low; high = bounds.high }
