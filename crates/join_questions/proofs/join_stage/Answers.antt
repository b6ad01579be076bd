-- Questions 20 to 22, asked in their order; the first whose answer is no ends the stage.
use native.Mathlib.Omega.{arith}
use mathlib.Core.Path.{sym, ◌∙◌}
use Rattle.join_questions.proofs.JoinTests.{widths_differ, names_wrong, lines_many, all_pass_lem}
use Rattle.join_questions.proofs.join_stage.Goals as goal

pub returns-then-a-b : goal.returns-then-a-b
returns-then-a-b c =
    let a = c.args in
    widths_differ a.first.now.bytes.now a.second.now.bytes.now a.names.now a.first.now.header
    (λ e. absurd (omega (arith, a.first.now.read.width, a.second.now.read.width)))

pub returns-then-not-names_right : goal.returns-then-not-names_right
returns-then-not-names_right c =
    let a = c.args in
    names_wrong a.first.now.bytes.now a.second.now.bytes.now a.names.now a.first.now.header
    (omega (arith, a.first.now.read.width, a.second.now.read.width))
    (sym c.names_right.ensures ∙ c.if-not-names_right.true)

pub returns-then-a-b-gt248 : goal.returns-then-a-b-gt248
returns-then-a-b-gt248 c =
    let a = c.args in
    lines_many a.first.now.bytes.now a.second.now.bytes.now a.names.now a.first.now.header
    (omega (arith, a.first.now.read.width, a.second.now.read.width))
    (sym c.names_right.ensures ∙ c.if-not-names_right.false)
    (omega (arith, a.first.now.read.lines, a.second.now.read.lines))

pub returns : goal.returns
returns c =
    let a = c.args in
    all_pass_lem a.first.now.bytes.now a.second.now.bytes.now a.names.now a.first.now.header
    (omega (arith, a.first.now.read.width, a.second.now.read.width))
    (sym c.names_right.ensures ∙ c.if-not-names_right.false)
    (omega (arith, a.first.now.read.lines, a.second.now.read.lines))
