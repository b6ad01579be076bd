-- `other_input` is the second operand's word for the kinds that use it, and the constant for every other.
use Rattle.trail.proofs.KindTests.{second_used, second_unused}
use Rattle.line_words.proofs.other_input.Goals as goal

pub returns-in-1 : goal.returns-in-1
returns-in-1 c = rw (second_used _ c.in-1.is)

pub returns-in_default : goal.returns-in_default
returns-in_default c = rw (second_unused _ c.in_default.in_default-own.rest.1)
