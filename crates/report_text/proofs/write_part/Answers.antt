-- The part is made aside, where it always has room, and put where there is room for it.
use native.Mathlib.Omega.{arith}
use Rattle.buffers.proofs.Appending.{wrote_taken}
use Rattle.report_file.proofs.Parts.{parts_are_within}
use Rattle.report_text.proofs.write_part.Goals as goal

pub returns : goal.returns
returns c =
    let read = c.args.sheet.now.read in
    rw (← wrote_taken (parts_are_within c.args.sheet.now.bytes.now read.accepted c.args.part (omega (arith, read.lines)))
    c.put_report_part-bytes.ensures)
    c.put_part.ensures

pub slice_bounds-put_part-end : goal.slice_bounds-put_part-end
slice_bounds-put_part-end c =
    let read = c.args.sheet.now.read in
    omega (
      arith,
      parts_are_within c.args.sheet.now.bytes.now read.accepted c.args.part (omega (arith, read.lines)),
      c.put_report_part-bytes.ensures.next,
    )
