use Rattle.std.proofs.Common.{◌-◌, rules}
use Rattle.sheet.specs.Questions.{check_question}
use Rattle.answers.proofs.Answering.{turn}
use Rattle.block_questions.proofs.checks.check_stage.Goals as goal

pub loop-block-init : goal.loop-block-init
loop-block-init c = search turn

pub returns-then-not-check_right : goal.returns-then-not-check_right
unfolding check_question
returns-then-not-check_right c = search turn depth 12

pub loop-block-preserved : goal.loop-block-preserved
unfolding check_question
loop-block-preserved c = search turn depth 12

pub returns : goal.returns
returns c = search turn depth 12
