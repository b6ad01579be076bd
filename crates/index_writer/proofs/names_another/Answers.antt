-- The second operand is looked at for the kinds that use it.
use Rattle.sheet.proofs.Testing.{testing}
use Rattle.trail.proofs.KindTests.{kind-tests}
use Rattle.index_writer.specs.Placing.{names_another}
use Rattle.index_writer.proofs.names_another.Goals as goal

pub returns-in-1 : goal.returns-in-1
unfolding names_another
returns-in-1 c = search (testing, kind-tests) depth 8

pub returns-in_default : goal.returns-in_default
unfolding names_another
returns-in_default c = search (testing, kind-tests) depth 8
