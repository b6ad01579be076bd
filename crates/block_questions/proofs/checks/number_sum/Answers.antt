use Rattle.block_questions.proofs.CheckSums.{summing}
use Rattle.block_questions.proofs.checks.number_sum.Goals as goal

pub loop-j-init : goal.loop-j-init
loop-j-init c = search summing

pub loop-j-preserved : goal.loop-j-preserved
loop-j-preserved c = search summing depth 8
