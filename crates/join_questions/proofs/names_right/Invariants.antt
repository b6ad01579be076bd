-- The invariant: the names passed are right.
use mathlib.Core.Path.{◌≡◌}
use mathlib.Core.Bool.{true}
use Rattle.words.specs.Below.{all}
use Rattle.trail.specs.Joining.{name_right}
use Rattle.sheet.specs.Fields.{trail_of}
use Rattle.join_questions.proofs.names_right.Given as goal

abbrev pub invariant-loop-j : goal.invariant-loop-j
invariant-loop-j l = (all l.j (name_right (trail_of l.first.bytes.now) (trail_of l.second.bytes.now) l.names) ≡ true)
