-- `trial` reads, asks 17 and 14, then for the room, and writes only then.
use native.Mathlib.Omega.{arith}
use Rattle.answers.proofs.Calling.{was_read, kept, kept_too, written}
use Rattle.changed_sheets.proofs.Stage.{own_asked, all_passed}
use Rattle.changing.proofs.Calling.{trial_refused, unread, room_refused, room_enough}
use Rattle.changing.proofs.trial.Goals as goal

pub returns-in_err-parts : goal.returns-in_err-parts
returns-in_err-parts c =
    let a = c.args in
    kept_too _ _ _ _ _ c.from_residual.ensures.1
    (trial_refused a.sheet.now a.k a.difference a.out.now (unread a.sheet.now a.k a.difference c.in_err-parts.ensures))

pub change_stage-requires : goal.change_stage-requires
change_stage-requires c = (was_read _ c.in_ok-parts.ensures).limits

pub returns-in_err-change_stage : goal.returns-in_err-change_stage
returns-in_err-change_stage c =
    let a = c.args in
    kept_too _ _ _ _ _ c.from_residual-in_err-change_stage.ensures.1
    (trial_refused a.sheet.now a.k a.difference a.out.now
    (own_asked (was_read _ c.in_ok-parts.ensures) a.k a.difference c.in_err-change_stage.ensures))

pub overflow_mul-need : goal.overflow_mul-need
overflow_mul-need c = omega (arith, (was_read _ c.in_ok-parts.ensures).limits.lines_most)

pub returns-then-out-need : goal.returns-then-out-need
returns-then-out-need c =
    let p = all_passed (was_read _ c.in_ok-parts.ensures) c.args.k c.args.difference c.in_ok-change_stage.ensures in
    kept _ _ _ (room_refused p c.args.out.now c.if-out-need.true)

pub invariant_of-sheet : goal.invariant_of-sheet
invariant_of-sheet c = record { read = was_read _ c.in_ok-parts.ensures }

pub put_changed_reports-requires : goal.put_changed_reports-requires
put_changed_reports-requires c =
    let p = all_passed (was_read _ c.in_ok-parts.ensures) c.args.k c.args.difference c.in_ok-change_stage.ensures in
    (p.known, p.word, c.if-out-need.false)

pub returns : goal.returns
returns c =
    let p = all_passed (was_read _ c.in_ok-parts.ensures) c.args.k c.args.difference c.in_ok-change_stage.ensures in
    written _ _ _ c.put_changed_reports.ensures (room_enough p c.args.out.now c.if-out-need.false)
