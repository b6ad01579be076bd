-- A chain's logarithm is at most its length in sixteenths, so that the difference does not cut off.
use Rattle.chain_costs.proofs.Ends.{chain_least, chain_costs}
use Rattle.chain_costs.proofs.chain_cost.Goals as goal

pub logarithm-known-requires : goal.logarithm-known-requires
logarithm-known-requires c = rw (c.chain_number.ensures, c.chain_length-k.ensures.0) c.requires.3

pub overflow_sub-result : goal.overflow_sub-result
overflow_sub-result c = search chain_least depth 8

pub returns : goal.returns
returns c = search chain_costs depth 8
