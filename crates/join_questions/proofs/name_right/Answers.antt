-- A name is tested as the definition says, first against the words that the first sheet has.
use native.Mathlib.Omega.{arith}
use mathlib.Core.Path.{sym, ◌∙◌}
use Rattle.trail.proofs.Differences.{difference_input}
use Rattle.sheet.specs.Fields.{trail_of}
use Rattle.join_questions.proofs.JoinTests.{name_unknown, name_twice, name_compared}
use Rattle.join_questions.proofs.name_right.Goals as goal

pub returns-then-a-word : goal.returns-then-a-word
returns-then-a-word c =
    let a = c.args in
    name_unknown (trail_of a.first.now.bytes.now) (trail_of a.second.now.bytes.now) a.names.now a.j
    (omega (arith, a.first.now.read.inputs, a.first.now.read.lines))

pub returns-then-named_before : goal.returns-then-named_before
returns-then-named_before c =
    let a = c.args in
    name_twice (trail_of a.first.now.bytes.now) (trail_of a.second.now.bytes.now) a.names.now a.j
    (omega (arith, a.first.now.read.inputs, a.first.now.read.lines))
    (sym c.named_before.ensures ∙ c.if-named_before.true)

pub returns : goal.returns
returns c =
    let a = c.args in
    name_compared (trail_of a.first.now.bytes.now) (trail_of a.second.now.bytes.now) a.names.now a.j
    (omega (arith, a.first.now.read.inputs, a.first.now.read.lines))
    (sym c.named_before.ensures ∙ c.if-named_before.false)
    c.difference_at.ensures
    (c.difference_at-2.ensures ∙ difference_input (trail_of a.second.now.bytes.now) a.j (omega (arith, a.second.now.read.inputs)))
