-- A chain ends where both bits below are 1 and the state one place below is 000.
use native.Mathlib.Omega.{arith}
use Rattle.chain_costs.proofs.Ends.{ends_word_lem}
use Rattle.chains.proofs.chain_ends.Goals as goal

pub returns : goal.returns
returns c = rw c.mask.ensures (ends_word_lem _ _ _ c.not_000.ensures _ (omega arith))
