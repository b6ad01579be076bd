-- `change` reads, asks 17 and 14, and writes only then.
use Rattle.answers.proofs.Calling.{was_read}
use Rattle.changed_sheets.proofs.Stage.{own_asked, all_passed, change_made}
use Rattle.changing.proofs.Calling.{unread, change_kept}
use Rattle.changing.proofs.change.Goals as goal

pub returns-in_err-header : goal.returns-in_err-header
returns-in_err-header c =
    let a = c.args in
    change_kept a.sheet.now a.k a.difference _ _ c.from_residual.ensures.1 (unread a.sheet.now a.k a.difference c.in_err-header.ensures)

pub change_stage-requires : goal.change_stage-requires
change_stage-requires c = (was_read _ c.in_ok-header.ensures).limits

pub returns-in_err-change_stage : goal.returns-in_err-change_stage
returns-in_err-change_stage c =
    let a = c.args in
    change_kept a.sheet.now a.k a.difference _ _ c.from_residual-in_err-change_stage.ensures.1
    (own_asked (was_read _ c.in_ok-header.ensures) a.k a.difference c.in_err-change_stage.ensures)

pub change_difference-requires : goal.change_difference-requires
change_difference-requires c =
    let p = all_passed (was_read _ c.in_ok-header.ensures) c.args.k c.args.difference c.in_ok-change_stage.ensures in
    (p.read, p.known)

pub returns : goal.returns
returns c = change_made (all_passed (was_read _ c.in_ok-header.ensures) c.args.k c.args.difference c.in_ok-change_stage.ensures) c.change_difference.ensures
