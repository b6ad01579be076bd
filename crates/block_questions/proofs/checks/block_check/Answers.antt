-- The block's numbers, and its index.
use Rattle.block_questions.proofs.CheckSums.{check_summed}
use Rattle.block_questions.proofs.checks.block_check.Goals as goal

pub returns : goal.returns
returns c = search check_summed depth 8
