-- The invariant: the ends that are left, and the cost of their chains.
use Rattle.chain_costs.proofs.Ends.{Remaining}
use Rattle.chains.proofs.all_chains.Given as goal

abbrev pub invariant-loop-rest : goal.invariant-loop-rest
invariant-loop-rest l = Remaining l.n l.a l.u l.v l.ends l.cost l.rest

abbrev pub decreases-loop-rest : goal.decreases-loop-rest
decreases-loop-rest l = l.rest
