-- `change_indexed` reads, compares, asks 17 and 14, and writes only then.
use mathlib.Core.Path.{sym, ◌∙◌}
use Rattle.answers.proofs.Calling.{was_read}
use Rattle.changing_indexed.proofs.Calling.{unread, not_own, stage_refused, passed, read_again, renewing, made}
use Rattle.changing_indexed.proofs.change_indexed.Goals as goal

pub returns-in_err-header : goal.returns-in_err-header
returns-in_err-header c =
    let a = c.args in
    unread a.sheet.now a.index.now a.report.now a.k a.difference _ _ c.from_residual.ensures.1 c.in_err-header.ensures

pub invariant_of-lent : goal.invariant_of-lent
invariant_of-lent c = record { read = was_read _ c.in_ok-header.ensures }

pub returns-then-not-are_own : goal.returns-then-not-are_own
returns-then-not-are_own c =
    let a = c.args in
    let read = was_read _ c.in_ok-header.ensures in
    not_own a.sheet.now a.index.now a.report.now a.k a.difference read (sym c.are_own.ensures ∙ c.if-not-are_own.true)

pub change_stage-requires : goal.change_stage-requires
change_stage-requires c = (was_read _ c.in_ok-header.ensures).limits

pub returns-in_err-change_stage : goal.returns-in_err-change_stage
returns-in_err-change_stage c =
    let a = c.args in
    let read = was_read _ c.in_ok-header.ensures in
    let own = sym c.are_own.ensures ∙ c.if-not-are_own.false in
    stage_refused a.sheet.now a.index.now a.report.now a.k a.difference read own _ _ c.from_residual-in_err-change_stage.ensures.1 c.in_err-change_stage.ensures

pub change_difference-requires : goal.change_difference-requires
change_difference-requires c =
    let a = c.args in
    let read = was_read _ c.in_ok-header.ensures in
    let own = sym c.are_own.ensures ∙ c.if-not-are_own.false in
    let p = passed a.sheet.now a.index.now a.report.now a.k a.difference read own c.in_ok-change_stage.ensures in
    (p.read, p.known)

pub invariant_of-changed : goal.invariant_of-changed
invariant_of-changed c =
    let a = c.args in
    let read = was_read _ c.in_ok-header.ensures in
    let own = sym c.are_own.ensures ∙ c.if-not-are_own.false in
    record { read = read_again a.sheet.now a.index.now a.report.now a.k a.difference read own c.in_ok-change_stage.ensures c.change_difference.ensures }

pub renew_reports-requires : goal.renew_reports-requires
renew_reports-requires c =
    let a = c.args in
    let read = was_read _ c.in_ok-header.ensures in
    let own = sym c.are_own.ensures ∙ c.if-not-are_own.false in
    renewing a.sheet.now a.index.now a.report.now a.k a.difference read own c.in_ok-change_stage.ensures c.change_difference.ensures

pub returns : goal.returns
returns c =
    let a = c.args in
    let read = was_read _ c.in_ok-header.ensures in
    let own = sym c.are_own.ensures ∙ c.if-not-are_own.false in
    made a.sheet.now a.index.now a.report.now a.k a.difference read own c.in_ok-change_stage.ensures c.change_difference.ensures c.renew_reports.ensures
