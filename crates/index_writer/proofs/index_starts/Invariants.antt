-- The invariant: the words passed have their parts' starts, the others still their counts.
use Rattle.sheet.specs.Fields.{trail_of}
use Rattle.index_writer.proofs.Starting.{Started}
use Rattle.index_writer.proofs.index_starts.Given as goal

abbrev pub invariant-loop-j : goal.invariant-loop-j
invariant-loop-j l = Started (trail_of l.sheet.bytes.now) l.j l.next l.starts
