-- The call reads, asks for the room, and writes the sums only then.
use mathlib.Core.Path.{subst}
use Rattle.buffers.specs.Overwrite.{Wrote}
use Rattle.trail_reports.specs.Totals.{Sums}
use Rattle.report_c.specs.Calls.{totals_numbers}
use Rattle.answers.proofs.Calling.{was_read, calling, refuses_too, kept, kept_too, written}
use Rattle.report_c.proofs.write_totals.Goals as goal

pub returns-in_err-header : goal.returns-in_err-header
returns-in_err-header c = kept_too _ _ _ _ _ c.from_residual.ensures.1 (refuses_too _ _ _ _ c.in_err-header.ensures)

pub returns-then-out-lt3 : goal.returns-then-out-lt3
returns-then-out-lt3 c = let read = c.in_ok-header.ensures in kept _ _ _ (search calling depth 12)

pub invariant_of-sheet : goal.invariant_of-sheet
invariant_of-sheet c = record { read = was_read _ c.in_ok-header.ensures }

pub returns : goal.returns
returns c =
    let read = c.in_ok-header.ensures in
    let sums = c.sum_reports-sums.ensures in
    let put = c.put_all in
    let wrote = subst (λ (t : Sums). Wrote 0 (totals_numbers t) c.args.out.now put.result put.new.out) sums put.ensures in
    written _ _ _ wrote (search calling depth 12)
