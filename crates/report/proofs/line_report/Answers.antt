-- `line_report` reads, asks for the line, and reports it.
use Rattle.differential.specs.Report.{report_means}
use Rattle.answers.proofs.Calling.{was_read, calling, refused_by_reading}
use Rattle.report.proofs.line_report.Goals as goal

pub returns-in_err-header : goal.returns-in_err-header
returns-in_err-header c = refused_by_reading _ report_means _ _ _ _ c.from_residual.ensures.1 c.in_err-header.ensures

pub returns-then-header-k : goal.returns-then-header-k
returns-then-header-k c = let read = c.in_ok-header.ensures in search calling depth 12

pub invariant_of-sheet : goal.invariant_of-sheet
invariant_of-sheet c = record { read = was_read _ c.in_ok-header.ensures }

pub returns : goal.returns
returns c = let read = c.in_ok-header.ensures in search calling depth 12
