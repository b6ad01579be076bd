-- The invariant: the position is that of the part of the word that the steps so far have come to.
use mathlib.Core.Path.{◌≡◌}
use Rattle.renewed_reports.specs.Walking.{part_at}
use Rattle.renewed_reports.proofs.part_position.Given as goal

abbrev pub invariant-loop : goal.invariant-loop
invariant-loop l = l.at ≡ part_at l.index l.counter
