-- Header, lines, rest: each stage asks what the one before it has settled, or hands its refusal on.
use mathlib.Core.Path.{sym, ◌∙◌}
use Rattle.sheet.specs.Questions.{later_questions}
use Rattle.sheet.proofs.Asking.{go_on}
use Rattle.sheet.proofs.Settled.{limited}
use Rattle.answers.proofs.Answering.{asked, hand_on}
use Rattle.reading.proofs.later_stages.Goals as goal

pub returns-in_default : goal.returns-in_default
unfolding later_questions
returns-in_default c = hand_on _ _ _ _ _ _ c.header_stage-head.ensures c.in_default.is

pub lines_stage-lines-requires : goal.lines_stage-lines-requires
lines_stage-lines-requires c =
    let head = asked _ _ _ _ c.header_stage-head.ensures c.in-Ok.is in
    (c.requires, limited _ _ c.requires.blocks_least head.0)

pub returns-in_default-lines : goal.returns-in_default-lines
unfolding later_questions
returns-in_default-lines c =
    let head = asked _ _ _ _ c.header_stage-head.ensures c.in-Ok.is in
    hand_on _ _ _ _ _ _ c.lines_stage-lines.ensures c.in_default-lines.is ∙ sym (go_on _ _ _ head.0)

pub returns : goal.returns
unfolding later_questions
returns c =
    let head = asked _ _ _ _ c.header_stage-head.ensures c.in-Ok.is in
    let lines = asked _ _ _ _ c.lines_stage-lines.ensures c.in-Ok-lines.is in
    c.rest_stage.ensures ∙ sym (go_on _ _ _ head.0 ∙ go_on _ _ _ lines.0)
