-- T is at most 2^K, so that neither choice of p cuts off.
use native.Mathlib.Omega.{arith}
use mathlib.Core.Path.{◌∙◌}
use Rattle.words.proofs.Masks.{one_shl}
use Rattle.differential.specs.Constant.{chain_p}
use Rattle.differential.proofs.ChainShifts.{case_bit}
use Rattle.chain_costs.proofs.chain_number.Goals as goal

pub overflow_sub-result : goal.overflow_sub-result
overflow_sub-result c = rw (one_shl 32 c.args.k (omega arith)) c.chain_t-t.ensures.1

pub returns-then-bit : goal.returns-then-bit
unfolding chain_p
returns-then-bit c =
    let a = c.args in
    let which = c.bit.ensures ∙ case_bit a.a a.u a.v a.i (omega arith) in
    rw (← which, c.if-bit.true) c.chain_t-t.ensures.0

pub returns-else-bit : goal.returns-else-bit
unfolding chain_p
returns-else-bit c =
    let a = c.args in
    let which = c.bit.ensures ∙ case_bit a.a a.u a.v a.i (omega arith) in
    rw (one_shl 32 a.k (omega arith), c.chain_t-t.ensures.0, ← which, c.if-bit.false)
