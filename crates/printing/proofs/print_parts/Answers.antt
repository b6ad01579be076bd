-- A part has room behind what is gathered.
use Rattle.std.proofs.Common.{◌+◌, ◌≤◌, length, arith}
use Rattle.printing.proofs.Rooms.{gathered_within}
use Rattle.printing.proofs.print_parts.Goals as goal

pub overflow_add-end : goal.overflow_add-end
overflow_add-end g c =
    let within : c.loop-part.end + c.in-Ok.bytes ≤ length c.loop-part.out = gathered_within _ _ _ _ _ c.in-Ok.ensures.0 (omega arith) in
    omega arith

pub make_room-requires : goal.make_room-requires
make_room-requires g c =
    let within : c.loop-part.end + c.in-Ok.bytes ≤ length c.loop-part.out = gathered_within _ _ _ _ _ c.in-Ok.ensures.0 (omega arith) in
    omega arith
