-- `certain_if` compares the stated difference with the one that the operands' differences give.
use borrow.Author.Tests.{eq-eqb, ne_eqb}
use Rattle.line_reports.proofs.linear_kinds.certain_if.Goals as goal

pub returns-then-line-given_difference : goal.returns-then-line-given_difference
returns-then-line-given_difference c = rw (← c.given_difference.ensures, eq-eqb _ _ c.if-line-given_difference.true)

pub returns-else-line-given_difference : goal.returns-else-line-given_difference
returns-else-line-given_difference c = rw (← c.given_difference.ensures, ne_eqb _ _ c.if-line-given_difference.false)
