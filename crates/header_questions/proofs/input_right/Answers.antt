-- An input difference is a word if the sheet has that input, else 0.
use borrow.Author.Tests.{lt-ltb, le-ltb}
use Rattle.sheet.specs.Questions.{input_right}
use Rattle.header_questions.proofs.input_right.Goals as goal

pub returns-else-j-header : goal.returns-else-j-header
unfolding input_right
returns-else-j-header c = rw (c.input_difference-difference.ensures, le-ltb _ _ c.if-j-header.false)

pub returns-then-j-header : goal.returns-then-j-header
unfolding input_right
returns-then-j-header c = rw (c.is_word.ensures, c.input_difference-difference.ensures, lt-ltb _ _ c.if-j-header.true)
