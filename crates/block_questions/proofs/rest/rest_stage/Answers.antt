use Rattle.std.proofs.Common.{◌-◌, refl, rules}
use Rattle.sheet.specs.Questions.{rest_question}
use Rattle.answers.proofs.Answering.{turn}
use Rattle.block_questions.proofs.rest.rest_stage.Goals as goal

pub loop-i-init : goal.loop-i-init
loop-i-init c = (refl, search turn)

pub returns-then-not-block_rest : goal.returns-then-not-block_rest
unfolding rest_question
returns-then-not-block_rest c = search turn depth 12

pub loop-i-preserved : goal.loop-i-preserved
unfolding rest_question
loop-i-preserved c = (search rules, search turn depth 12)

pub returns : goal.returns
returns c = search turn depth 12
