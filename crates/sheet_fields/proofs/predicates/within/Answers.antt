-- Two tests joined.
use Rattle.sheet.specs.Questions.{within}
use Rattle.sheet.proofs.Testing.{testing}
use Rattle.sheet_fields.proofs.predicates.within.Goals as goal

pub returns-then-a-x : goal.returns-then-a-x
unfolding within
returns-then-a-x c = search testing depth 4

pub returns-else-a-x : goal.returns-else-a-x
unfolding within
returns-else-a-x c = search testing depth 4
