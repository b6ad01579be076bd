-- The four mark bytes, one after the other.
use Rattle.sheet.specs.Questions.{marked}
use Rattle.sheet.proofs.Testing.{testing}
use Rattle.header_questions.proofs.marked.Goals as goal

pub returns-then-s-ne65 : goal.returns-then-s-ne65
unfolding marked
returns-then-s-ne65 c = search testing depth 8

pub returns-then-s-ne82 : goal.returns-then-s-ne82
unfolding marked
returns-then-s-ne82 c = search testing depth 8

pub returns-then-s-ne88 : goal.returns-then-s-ne88
unfolding marked
returns-then-s-ne88 c = search testing depth 8

pub returns : goal.returns
unfolding marked
returns c = search testing depth 8
