-- The line's report is written at its own position.
use native.Mathlib.Omega.{arith}
use mathlib.Core.Path.{sym, subst}
use Rattle.trail_reports.specs.Totals.{SmallReport}
use Rattle.trail_reports.proofs.Demand2.{sheet_report_small}
use Rattle.renewed_reports.proofs.renew_report.Goals as goal

pub put_report-requires : goal.put_report-requires
put_report-requires c =
    let a = c.args in
    let read = a.sheet.now.read in
    (omega arith, subst SmallReport (sym c.report_at.ensures) (sheet_report_small a.sheet.now.bytes.now read.accepted a.i (omega (arith, read.lines))))
