-- Different operands are asked of the kinds that want them.
use Rattle.sheet.specs.Questions.{operands_differ}
use Rattle.sheet.proofs.Testing.{testing}
use Rattle.trail.proofs.KindTests.{kind-tests}
use Rattle.operand_questions.proofs.operands_differ.Goals as goal

pub returns-in-5 : goal.returns-in-5
unfolding operands_differ
returns-in-5 c = search (testing, kind-tests) depth 8

pub returns-in_default : goal.returns-in_default
unfolding operands_differ
returns-in_default c = search (testing, kind-tests) depth 8
