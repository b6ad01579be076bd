-- The text of the list that was written is the text of the line.
use native.Mathlib.Omega.{arith}
use Rattle.buffers.proofs.Appending.{wrote_taken}
use Rattle.sheet.specs.Fields.{trail_of}
use Rattle.clause_file.proofs.Parts.{list_text}
use Rattle.clause_text.proofs.Rooms.{list_most, list_digits}
use Rattle.clause_text.proofs.write_clauses.Goals as goal

pub put_line-count-requires : goal.put_line-count-requires
put_line-count-requires c =
    (c.requires, omega (arith, list_most c.args.sheet.now.read c.args.k c.requires))

pub write_list-requires : goal.write_list-requires
write_list-requires c =
    let most = list_most c.args.sheet.now.read c.args.k c.requires in
    rw (wrote_taken (omega arith) c.put_line-count.ensures)
    (list_digits c.args.sheet.now.read c.args.k c.requires, omega arith)

pub returns : goal.returns
returns c =
    let most = list_most c.args.sheet.now.read c.args.k c.requires in
    rw (
      ← list_text (trail_of c.args.sheet.now.bytes.now) c.args.k,
      ← wrote_taken (omega arith) c.put_line-count.ensures,
    )
    c.write_list.ensures

pub slice_bounds-write_list-end : goal.slice_bounds-write_list-end
slice_bounds-write_list-end c =
    omega (arith, list_most c.args.sheet.now.read c.args.k c.requires, c.put_line-count.ensures.next)
