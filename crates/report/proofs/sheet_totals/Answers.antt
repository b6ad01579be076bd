-- `sheet_totals` reads, and sums the reports of what reading accepted.
use Rattle.trail_reports.specs.Totals.{sums_of}
use Rattle.answers.proofs.Calling.{was_read, calling, refused_alone}
use Rattle.report.proofs.sheet_totals.Goals as goal

pub returns-in_err-header : goal.returns-in_err-header
returns-in_err-header c = refused_alone _ sums_of _ _ _ c.from_residual.ensures.1 c.in_err-header.ensures

pub invariant_of-sum_reports : goal.invariant_of-sum_reports
invariant_of-sum_reports c = record { read = was_read _ c.in_ok-header.ensures }

pub returns : goal.returns
returns c = let read = c.in_ok-header.ensures in search calling depth 12
