-- The invariant: the lines passed are counted at the words that they name.
use Rattle.trail.specs.WellFormed.{most_words}
use Rattle.sheet.specs.Fields.{trail_of}
use Rattle.index_writer.specs.Placing.{users_before, Kept}
use Rattle.index_writer.proofs.count_users.Given as goal

abbrev pub invariant-loop-i : goal.invariant-loop-i
invariant-loop-i l = Kept most_words (users_before (trail_of l.sheet.bytes.now) l.i) l.counts
