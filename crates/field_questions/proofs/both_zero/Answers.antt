-- Two tests joined.
use borrow.Author.Tests.{ne_eqb}
use Rattle.sheet.proofs.Testing.{testing}
use Rattle.field_questions.proofs.both_zero.Goals as goal

pub returns-then-a-eq0 : goal.returns-then-a-eq0
returns-then-a-eq0 c = search testing

pub returns-else-a-eq0 : goal.returns-else-a-eq0
returns-else-a-eq0 c = simp (ne_eqb _ _ c.if-a-eq0.false)
