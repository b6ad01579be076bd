-- The invariant: the lines passed stand in the parts of the words that they name.
use mathlib.Core.Path.{◌≡◌}
use lib.ListN.{length}
use Rattle.sheet.specs.Fields.{trail_of}
use Rattle.index_writer.specs.Placing.{users_before, Placed}
use Rattle.index_writer.proofs.put_users.Given as goal

abbrev pub invariant-loop-i : goal.invariant-loop-i
invariant-loop-i l =
    (length l.out ≡ length l.initial.out)
    × Placed (trail_of l.sheet.bytes.now) (users_before (trail_of l.sheet.bytes.now) l.i) l.initial.out l.last l.out
