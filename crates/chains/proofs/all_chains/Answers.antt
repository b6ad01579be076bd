use native.Mathlib.Omega.{arith}
use lib.Pow.{pow_mono}
use borrow.Author.Rules.{rules}
use Rattle.differential.proofs.Weights.{costs_le}
use Rattle.chain_costs.proofs.Ends.{all_remaining, none_remaining, remaining_lt, ends_count, ending}
use Rattle.chains.proofs.all_chains.Goals as goal

pub loop-rest-init : goal.loop-rest-init
loop-rest-init c = all_remaining _ _ _ _ _ c.chain_ends-ends.ensures

pub overflow_cast-rest : goal.overflow_cast-rest
overflow_cast-rest c = record { fits = remaining_lt c.loop-rest.invariant 32 (omega arith) }

pub chain_cost-next-requires : goal.chain_cost-next-requires
chain_cost-next-requires c =
    let a = c.args in
    let small = pow_mono {i = a.n} {j = 32} (omega arith) in
    (search ending depth 8, search ending depth 8, omega arith, search ending depth 8)

pub overflow_add-cost : goal.overflow_add-cost
overflow_add-cost c = search ending depth 8

pub mask-rest-requires : goal.mask-rest-requires
mask-rest-requires c = (search ending depth 8, search rules)

pub loop-rest-smaller : goal.loop-rest-smaller
loop-rest-smaller c = search ending depth 8

pub loop-rest-preserved : goal.loop-rest-preserved
loop-rest-preserved c = search ending depth 8

pub returns : goal.returns
returns c =
    let a = c.args in
    let ends = c.chain_ends-ends in
    let all = none_remaining _ _ _ _ _ ends.ensures _ (rw c.loop-rest-test.false at c.loop-rest.invariant) in
    (all, ends_count _ a.a _ _ _ ends.ensures, omega (arith, all, costs_le a.n a.a a.u a.v))
