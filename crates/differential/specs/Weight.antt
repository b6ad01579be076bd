-- The weight of adding a constant, in sixteenths (document 01, "Line reports"; source document 000, equations 4 and 5).
use Rattle.std.specs.Prelude.{ℕ, ◌+◌, ◌-◌, ◌*◌, cond}
use Rattle.words.specs.Below.{total}
use Rattle.differential.specs.Constant.{halvings, quiet, is_chain, chain_p}
use Rattle.differential.specs.Unit.{unit}
use Rattle.differential.specs.Logarithm.{logarithm}

-- for each chain 16 K - A
unfoldable pub chain_cost : ℕ → ℕ → ℕ → ℕ → ℕ
chain_cost a u v i = cond (is_chain u v i) (unit * quiet u v i - logarithm (chain_p a u v (quiet u v i) i)) 0

-- 16 times H, plus for each chain 16 K - A
unfoldable pub constant_weight : ℕ → ℕ → ℕ → ℕ → ℕ
constant_weight n a u v = unit * halvings n u v + total n (chain_cost a u v)
