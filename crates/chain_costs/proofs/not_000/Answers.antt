-- A state is not 000 where a bit below it is 1 or the two differ there.
use Rattle.chain_costs.proofs.Ends.{not_000_word}
use Rattle.chain_costs.proofs.not_000.Goals as goal

pub returns : goal.returns
returns c = not_000_word _ _
