-- The constant is asked of the kinds that use it.
use Rattle.sheet.specs.Questions.{constant_right}
use Rattle.sheet.proofs.Testing.{testing}
use Rattle.trail.proofs.KindTests.{kind-tests}
use Rattle.field_questions.proofs.constant_right.Goals as goal

pub returns-in-2 : goal.returns-in-2
unfolding constant_right
returns-in-2 c = search (testing, kind-tests) depth 8

pub returns-in_default : goal.returns-in_default
unfolding constant_right
returns-in_default c = search (testing, kind-tests) depth 8
