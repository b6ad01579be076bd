-- The bits of T are bits of the constant shifted up by two, in the 32 bits of the type, which are more than K.
use native.Mathlib.Omega.{arith}
use lib.Pow.{pow_pos}
use Rattle.words.proofs.Masks.{one_shl}
use Rattle.differential.proofs.ChainLaws.{chain_t_fits, chain_t_le}
use Rattle.differential.proofs.ChainShifts.{chain_t_masked}
use Rattle.chain_costs.proofs.chain_t.Goals as goal

pub overflow_sub-result-2 : goal.overflow_sub-result-2
overflow_sub-result-2 c = omega (arith, one_shl 32 c.args.k (omega arith), pow_pos c.args.k)

pub overflow_add-result-2 : goal.overflow_add-result-2
overflow_add-result-2 c =
    let a = c.args in
    let t = chain_t_masked 32 a.a a.k a.i (omega arith) (omega arith) in
    record { fits = omega (arith, t, chain_t_fits 32 a.a a.k a.i (omega arith)) }

pub returns : goal.returns
returns c =
    let a = c.args in
    let t = chain_t_masked 32 a.a a.k a.i (omega arith) (omega arith) in
    (t, omega (arith, t, chain_t_le a.a a.k a.i))
