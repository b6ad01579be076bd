-- The line count and the number of blocks that it needs.
use mathlib.Core.Path.{sym, ◌∙◌}
use native.Mathlib.Omega.{arith}
use Rattle.sheet.specs.Questions.{lines_right}
use Rattle.sheet.proofs.FormSizes.{sizes}
use Rattle.sheet.proofs.Testing.{testing, within_most}
use Rattle.header_questions.proofs.lines_right.Goals as goal

pub returns-then-not-within : goal.returns-then-not-within
unfolding lines_right
returns-then-not-within c = search testing depth 8

pub returns : goal.returns
unfolding lines_right
returns c = rw c.records_in_block-records.ensures (search testing depth 8)

pub overflow_add-result : goal.overflow_add-result
overflow_add-result c = omega (arith, (sizes c.args.header.form).records_most, within_most 1 248 _ (sym c.within.ensures ∙ c.if-not-within.false))
