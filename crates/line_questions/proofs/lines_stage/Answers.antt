use native.Mathlib.Omega.{arith}
use Prim.Native.Nat.{◌-◌}
use borrow.Author.Rules.{rules}
use Rattle.sheet.specs.Questions.{line_questions}
use Rattle.sheet.proofs.Asking.{yes_next}
use Rattle.answers.proofs.Answering.{turn, asked, hands_on}
use Rattle.line_questions.proofs.lines_stage.Goals as goal

pub loop-k-init : goal.loop-k-init
loop-k-init c = search turn

pub returns-in_default : goal.returns-in_default
unfolding line_questions
returns-in_default c =
    let before = c.loop-k.invariant in
    let line = rw c.record_of.ensures at c.record_stage-answer.ensures in
    hands_on _ _ _ _ _ _ (omega arith) before line c.in_default.is

pub loop-k-preserved : goal.loop-k-preserved
unfolding line_questions
loop-k-preserved c =
    let before = c.loop-k.invariant in
    let line = rw c.record_of.ensures at c.record_stage-answer.ensures in
    yes_next _ _ before (asked _ _ _ _ line c.in-Ok.is).0

pub returns : goal.returns
returns c = search turn depth 12
