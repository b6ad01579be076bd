-- The loop's invariant: the lines with carries among those passed are counted.
use mathlib.Core.Path.{◌≡◌}
use Rattle.words.specs.Below.{count}
use Rattle.clause_lists.specs.Variables.{adds}
use Rattle.sheet.specs.Fields.{trail_of}
use Rattle.clause_sizes.proofs.counting.carried_before.Given as goal

abbrev pub invariant-loop-i : goal.invariant-loop-i
invariant-loop-i l = l.found ≡ count l.i (adds (trail_of l.sheet.bytes.now))
