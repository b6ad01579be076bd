-- A line's report is that of its differential.
use mathlib.Core.Path.{ap, ◌∙◌}
use native.Mathlib.Omega.{arith}
use Rattle.differential.specs.Report.{report_of}
use Rattle.trail_reports.specs.Lines.{line_report}
use Rattle.trail_reports.proofs.ProperLines.{report_asks}
use Rattle.sheet_reports.proofs.report_at.Goals as goal

pub report-requires : goal.report-requires
report-requires c = report_asks c.args.sheet.now.read c.args.k (omega arith) c.differential_at.ensures

pub returns : goal.returns
unfolding line_report
returns c = c.report.ensures ∙ ap report_of c.differential_at.ensures
