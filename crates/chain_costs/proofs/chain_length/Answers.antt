-- The zeros above the highest state that is not 000 say how many states 000 stand there; at a chain's end there are some.
use native.Mathlib.Omega.{arith}
use Rattle.differential.proofs.ChainLaws.{quiet_le}
use Rattle.chain_costs.proofs.Ends.{chain_some, run_zeros}
use Rattle.chain_costs.proofs.chain_length.Goals as goal

pub mask-requires : goal.mask-requires
mask-requires c =
    let a = c.args in
    omega (arith, chain_some a.u a.v a.i c.requires.0, quiet_le a.u a.v a.i)

pub overflow_add-result : goal.overflow_add-result
overflow_add-result c =
    let a = c.args in
    record { fits = omega (arith, run_zeros _ _ _ c.not_000.ensures a.i (omega arith) c.mask.ensures, quiet_le a.u a.v a.i) }

pub overflow_sub-result : goal.overflow_sub-result
overflow_sub-result c = omega (arith, run_zeros _ _ _ c.not_000.ensures c.args.i (omega arith) c.mask.ensures)

pub returns : goal.returns
returns c =
    let a = c.args in
    let zeros = run_zeros _ _ _ c.not_000.ensures a.i (omega arith) c.mask.ensures in
    omega (arith, chain_some a.u a.v a.i c.requires.0, quiet_le a.u a.v a.i)
