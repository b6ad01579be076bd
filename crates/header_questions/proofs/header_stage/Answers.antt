-- The header's questions, asked in their order; the first whose answer is no ends the stage.
use mathlib.Core.Path.{sym, ◌∙◌}
use native.Mathlib.Omega.{arith}
use Rattle.sheet.specs.Questions.{header_questions}
use Rattle.sheet.proofs.FormSizes.{sizes}
use Rattle.sheet.proofs.Testing.{granted, within_least, within_most}
use Rattle.answers.proofs.Answering.{stage}
use Rattle.header_questions.proofs.header_stage.Goals as goal

pub returns-then-not-marked : goal.returns-then-not-marked
unfolding header_questions
returns-then-not-marked c = search stage depth 24

pub returns-then-not-width_right : goal.returns-then-not-width_right
unfolding header_questions
returns-then-not-width_right c = search stage depth 24

pub returns-then-not-within : goal.returns-then-not-within
unfolding header_questions
returns-then-not-within c = search stage depth 24

pub returns-then-not-lines_right : goal.returns-then-not-lines_right
unfolding header_questions
returns-then-not-lines_right c = search stage depth 24

pub returns-then-not-inputs_right : goal.returns-then-not-inputs_right
unfolding header_questions
returns-then-not-inputs_right c = search stage depth 24

pub returns-then-not-rest_zero : goal.returns-then-not-rest_zero
unfolding header_questions
returns-then-not-rest_zero c = search stage depth 24

pub returns : goal.returns
unfolding header_questions
returns c = search stage depth 24

pub inputs_right-requires : goal.inputs_right-requires
inputs_right-requires c =
    let wide = sym c.width_right.ensures ∙ c.if-not-width_right.false in
    let size = sizes c.args.header.form in
    (omega arith, omega (arith, within_least 2 _ _ wide), omega (arith, within_most 2 _ _ wide))
