-- The number of words that fit is a product over the chains (document 01, "Line reports"; source document 000, Theorem 2).
use Rattle.std.specs.Prelude.{ℕ, zero, suc, ◌+◌, ◌*◌, ◌^◌, ◌<◌, ◌≡◌, cond}
use Rattle.words.specs.Below.{total}
use Rattle.differential.specs.Constant.{constant_fitting, halvings, quiet, is_chain, chain_p}

-- the product of the values at the numbers below a bound
unfoldable pub product : ℕ → (ℕ → ℕ) → ℕ
product zero f = 1
product (suc b) f = product b f * f b

-- K of a chain, 0 elsewhere
unfoldable pub chain_k : ℕ → ℕ → ℕ → ℕ
chain_k u v i = cond (is_chain u v i) (quiet u v i) 0

-- p of a chain, 1 elsewhere
unfoldable pub chain_factor : ℕ → ℕ → ℕ → ℕ → ℕ
chain_factor a u v i = cond (is_chain u v i) (chain_p a u v (quiet u v i) i) 1

-- Where some word fits, N * 2 ^ (H + the sum of the K) = 2 ^ n * the product of the p: each position that H counts costs
-- a bit, and a chain K bits less the logarithm of p.
abbrev pub ProductLaw : Type 0
ProductLaw =
    (n a u v : ℕ) → v < 2 ^ n → 0 < constant_fitting n a u v
    → constant_fitting n a u v * 2 ^ (halvings n u v + total n (chain_k u v)) ≡ 2 ^ n * product n (chain_factor a u v)
