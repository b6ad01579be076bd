-- The header's line is made aside, where it always has room, and put where there is room for it.
use native.Mathlib.Omega.{arith}
use Rattle.buffers.proofs.Appending.{wrote_taken}
use Rattle.clause_text.proofs.Rooms.{header_is, header_most}
use Rattle.clause_text.proofs.write_header.Goals as goal

pub put_header-bytes-requires : goal.put_header-bytes-requires
put_header-bytes-requires c =
    header_most c.args.sheet.now.read c.both_counts.ensures

pub returns : goal.returns
returns c =
    let counts = c.both_counts in
    rw (
      ← header_is c.args.sheet.now.bytes.now counts.ensures,
      ← wrote_taken (header_most c.args.sheet.now.read counts.ensures) c.put_header-bytes.ensures,
    )
    c.put_part.ensures

pub slice_bounds-put_part-end : goal.slice_bounds-put_part-end
slice_bounds-put_part-end c =
    omega (arith, header_most c.args.sheet.now.read c.both_counts.ensures, c.put_header-bytes.ensures.next)
