-- The second operand is asked of the kinds that use it.
use Rattle.sheet.specs.Questions.{operands_earlier}
use Rattle.sheet.proofs.Testing.{testing}
use Rattle.trail.proofs.KindTests.{kind-tests}
use Rattle.operand_questions.proofs.operands_earlier.Goals as goal

pub returns-then-word-line : goal.returns-then-word-line
unfolding operands_earlier
returns-then-word-line c = search testing

pub returns-in-1 : goal.returns-in-1
unfolding operands_earlier
returns-in-1 c = search (testing, kind-tests) depth 8

pub returns-in_default : goal.returns-in_default
unfolding operands_earlier
returns-in_default c = search (testing, kind-tests) depth 8
