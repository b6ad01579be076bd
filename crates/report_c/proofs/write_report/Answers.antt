-- The call reads, asks for the line and for the room, in that order, and writes the report only then.
use mathlib.Core.Path.{subst}
use Rattle.buffers.specs.Overwrite.{Wrote}
use Rattle.differential.specs.Report.{Report}
use Rattle.answers.proofs.Calling.{was_read, refuses_too, kept, kept_too, written}
use Rattle.report_buffer.specs.Buffer.{report_bytes}
use Rattle.report.proofs.Reporting.{reporting}
use Rattle.report_c.proofs.write_report.Goals as goal

pub returns-in_err-header : goal.returns-in_err-header
returns-in_err-header c = kept_too _ _ _ _ _ c.from_residual.ensures.1 (refuses_too _ _ _ _ c.in_err-header.ensures)

pub returns-then-header-k : goal.returns-then-header-k
returns-then-header-k c = let read = c.in_ok-header.ensures in kept _ _ _ (search reporting depth 12)

pub returns-then-out-lt-REPORT_BYTES : goal.returns-then-out-lt-REPORT_BYTES
returns-then-out-lt-REPORT_BYTES c = let read = c.in_ok-header.ensures in kept _ _ _ (search reporting depth 12)

pub invariant_of-sheet : goal.invariant_of-sheet
invariant_of-sheet c = record { read = was_read _ c.in_ok-header.ensures }

pub put_report-requires : goal.put_report-requires
put_report-requires c = let read = c.in_ok-header.ensures in (c.if-out-lt-REPORT_BYTES.false, search reporting depth 12)

pub returns : goal.returns
returns c =
    let read = c.in_ok-header.ensures in
    let put = c.put_report in
    let wrote = subst (λ (r : Report). Wrote 0 (report_bytes r) c.args.out.now put.result put.new.out) c.report_at.ensures put.ensures in
    written _ _ _ wrote (search reporting depth 12)
