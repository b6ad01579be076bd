-- The invariant: every line stands, and the counts of the words passed do.
use mathlib.Core.Path.{◌≡◌}
use lib.ListN.{length}
use Rattle.sheet.specs.Fields.{trail_of}
use Rattle.sheet_indexes.specs.Users.{users}
use Rattle.sheet_indexes.specs.Index.{part_start}
use Rattle.index_writer.specs.Placing.{Stands}
use Rattle.index_writer.proofs.put_index.Given as goal

abbrev pub invariant-loop-j : goal.invariant-loop-j
invariant-loop-j l =
    (length l.out ≡ length l.initial.out) × (l.at ≡ part_start (trail_of l.sheet.bytes.now) l.j)
    × Stands (trail_of l.sheet.bytes.now) l.j (λ x. length (users (trail_of l.sheet.bytes.now) x)) l.initial.out l.out
