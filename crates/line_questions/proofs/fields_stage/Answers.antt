-- The questions of a line's fields, asked in their order; the first whose answer is no ends the stage.
use native.Mathlib.Omega.{arith}
use Rattle.sheet.specs.Questions.{field_questions}
use Rattle.sheet.proofs.FormSizes.{sizes}
use Rattle.answers.proofs.Answering.{stage}
use Rattle.line_questions.proofs.fields_stage.Goals as goal

pub returns-then-not-amount_right : goal.returns-then-not-amount_right
unfolding field_questions
returns-then-not-amount_right c = search stage depth 8

pub constant_right-requires : goal.constant_right-requires
constant_right-requires c = (omega arith, omega (arith, (sizes c.args.header.form).width_fits))

pub returns-then-not-constant_right : goal.returns-then-not-constant_right
unfolding field_questions
returns-then-not-constant_right c = search stage depth 8

pub is_word-requires : goal.is_word-requires
is_word-requires c = (omega arith, omega (arith, (sizes c.args.header.form).width_fits))

pub returns-then-not-is_word : goal.returns-then-not-is_word
unfolding field_questions
returns-then-not-is_word c = search stage depth 8

pub returns-then-not-unused_zero : goal.returns-then-not-unused_zero
unfolding field_questions
returns-then-not-unused_zero c = search stage depth 8

pub returns : goal.returns
unfolding field_questions
returns c = search stage depth 8
