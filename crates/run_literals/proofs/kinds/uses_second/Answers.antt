-- The numbers of the first arm are those of the kinds whose rows have a second operand.
use mathlib.Core.Path.{sym}
use Rattle.trail.proofs.KindTests.{second_used, second_unused}
use Rattle.run_literals.proofs.kinds.uses_second.Goals as goal

pub returns-in-1 : goal.returns-in-1
returns-in-1 c = sym (second_used _ c.in-1.is)

pub returns-in_default : goal.returns-in_default
returns-in_default c = sym (second_unused _ c.in_default.in_default-own.rest.1)
