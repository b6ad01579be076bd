-- Of no line none has to be marked.
use native.Mathlib.Omega.{arith}
use Rattle.charged_lines.proofs.Marks.{marked_none}
use Rattle.charged_lines.proofs.ChargedLines.new.Goals as goal

pub invariant_of-result : goal.invariant_of-result
invariant_of-result c = record { room = omega arith; within = omega arith; marked = marked_none _ _ }
