-- A buffer of 7 bytes a number is long enough; else the text that was made aside is put where there is room for it.
use native.Mathlib.Omega.{arith}
use Rattle.buffers.proofs.Appending.{wrote_taken}
use Rattle.dimacs.specs.Numbers.{numbers_text}
use Rattle.dimacs.proofs.NumbersText.{text_within}
use Rattle.text_parts.proofs.Rooms.{room_written}
use Rattle.clause_text.proofs.write_list.Goals as goal

pub put_list-bytes-requires : goal.put_list-bytes-requires
put_list-bytes-requires c =
    let list = c.args.list.now in
    (λ i h. omega (arith, c.requires.0 i h), omega (arith, text_within 4 list c.requires.0))

pub returns-then-list-out : goal.returns-then-list-out
returns-then-list-out c =
    let list = c.args.list.now in
    room_written (numbers_text list) c.args.out.now (omega (arith, text_within 4 list c.requires.0)) c.put_list-bytes.ensures

pub put_list-bytes-requires-2 : goal.put_list-bytes-requires-2
put_list-bytes-requires-2 c =
    let list = c.args.list.now in
    (λ i h. omega (arith, c.requires.0 i h), omega (arith, text_within 4 list c.requires.0))

pub returns : goal.returns
returns c =
    rw (← wrote_taken (omega (arith, text_within 4 c.args.list.now c.requires.0))
    c.put_list-bytes-2.ensures) c.put_part.ensures

pub slice_bounds-put_part-end : goal.slice_bounds-put_part-end
slice_bounds-put_part-end c =
    omega (arith, text_within 4 c.args.list.now c.requires.0, c.put_list-bytes-2.ensures.next)
