-- The invariant: the words passed are those of the two runs.
use Rattle.trail.specs.Runs.{partner}
use Rattle.sheet.specs.Fields.{trail_of}
use Rattle.sheet_runs.specs.Facts.{Made}
use Rattle.sheet_runs.proofs.start.begin.Given as goal

abbrev pub invariant-loop-j : goal.invariant-loop-j
invariant-loop-j l =
    Made (trail_of l.sheet.bytes.now) l.start l.j l.first × Made (trail_of l.sheet.bytes.now) (partner (trail_of l.sheet.bytes.now) l.start) l.j l.second
