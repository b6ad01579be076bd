use native.Mathlib.Omega.{arith}
use Rattle.sheet.specs.Fields.{trail_of}
use Rattle.sheet.proofs.Testing.{looping}
use Rattle.join_questions.proofs.JoinTests.{names_miscounted, names_counted}
use Rattle.join_questions.proofs.names_right.Goals as goal

pub returns-then-names-second : goal.returns-then-names-second
returns-then-names-second c =
    let a = c.args in
    names_miscounted (trail_of a.first.now.bytes.now) (trail_of a.second.now.bytes.now) a.names.now (λ e. absurd (omega (arith, a.second.now.read.inputs)))

pub loop-j-init : goal.loop-j-init
loop-j-init c = search looping

pub returns-then-not-name_right : goal.returns-then-not-name_right
returns-then-not-name_right c =
    let a = c.args in
    names_counted (trail_of a.first.now.bytes.now) (trail_of a.second.now.bytes.now) a.names.now (omega (arith, a.second.now.read.inputs)) (search looping depth 8)

pub loop-j-preserved : goal.loop-j-preserved
loop-j-preserved c = search looping depth 8

pub returns : goal.returns
returns c =
    let a = c.args in
    names_counted (trail_of a.first.now.bytes.now) (trail_of a.second.now.bytes.now) a.names.now (omega (arith, a.second.now.read.inputs)) (search looping depth 8)
