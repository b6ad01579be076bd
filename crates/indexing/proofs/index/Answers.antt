-- `index` reads, measures the index, asks for the room, and writes only then.
use native.Mathlib.Omega.{arith}
use Rattle.sheet.proofs.Asking.{comes}
use Rattle.sheet.proofs.Asking.Comes.{done, yes, no}
use Rattle.answers.proofs.Calling.{refuses_too, was_read, asks_own, too_short, long_enough, kept, kept_too, written}
use Rattle.index_writer.proofs.Keeping.{none_kept}
use Rattle.indexing.proofs.index.Goals as goal

pub returns-in_err-header : goal.returns-in_err-header
returns-in_err-header c = kept_too _ _ _ _ _ c.from_residual.ensures.1 (refuses_too _ _ _ _ c.in_err-header.ensures)

pub invariant_of-read_sheet : goal.invariant_of-read_sheet
invariant_of-read_sheet c = record { read = was_read _ c.in_ok-header.ensures }

pub index_starts-need-requires : goal.index_starts-need-requires
index_starts-need-requires c = none_kept

pub returns-then-out-need : goal.returns-then-out-need
returns-then-out-need c =
    let need = c.index_starts-need.ensures.0 in
    kept _ _ _ (asks_own _ c.in_ok-header.ensures _ _ (comes (no (too_short _ _ _ need c.if-out-need.true))))

pub put_index-numbers-requires : goal.put_index-numbers-requires
put_index-numbers-requires c =
    let starts = c.index_starts-need.ensures in
    (starts.1, omega (arith, starts.0))

pub returns : goal.returns
returns c =
    let need = c.index_starts-need.ensures.0 in
    written _ _ _ c.put_index-numbers.ensures
    (asks_own _ c.in_ok-header.ensures _ _ (comes (yes (long_enough _ _ _ need (omega arith)) done)))
