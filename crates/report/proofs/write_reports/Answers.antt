-- `write_reports` reads, asks for the room, and writes only then.
use native.Mathlib.Omega.{arith}
use Rattle.answers.proofs.Calling.{was_read, refuses_too, kept, kept_too, written}
use Rattle.report.proofs.Reporting.{reporting}
use Rattle.report.proofs.write_reports.Goals as goal

pub returns-in_err-header : goal.returns-in_err-header
returns-in_err-header c = kept_too _ _ _ _ _ c.from_residual.ensures.1 (refuses_too _ _ _ _ c.in_err-header.ensures)

pub overflow_mul-need : goal.overflow_mul-need
overflow_mul-need c = let read = was_read _ c.in_ok-header.ensures in omega (arith, read.limits.lines_most)

pub returns-then-out-need : goal.returns-then-out-need
returns-then-out-need c = let read = c.in_ok-header.ensures in kept _ _ _ (search reporting depth 12)

pub invariant_of-sheet : goal.invariant_of-sheet
invariant_of-sheet c = record { read = was_read _ c.in_ok-header.ensures }

pub returns : goal.returns
returns c = let read = c.in_ok-header.ensures in written _ _ _ c.put_reports-bytes.ensures (search reporting depth 12)
