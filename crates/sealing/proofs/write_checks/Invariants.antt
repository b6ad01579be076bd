-- The loop's invariant: the checks of the blocks passed are written, and nothing else has changed.
use mathlib.Core.Path.{◌≡◌}
use lib.ListN.{length}
use Rattle.sealed_sheets.specs.Sealing.{with_checks}
use Rattle.sealing.proofs.write_checks.Given as goal

abbrev pub invariant-loop-b : goal.invariant-loop-b
invariant-loop-b l = (length l.s ≡ length l.initial.s) × (l.s ≡ with_checks l.b l.initial.s)
