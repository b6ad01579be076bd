-- The loop's invariant: the questions of all lines passed are answered yes.
use Prim.Native.Nat.{◌-◌, ◌≤◌}
use mathlib.Core.Path.{◌≡◌}
use mathlib.Core.Bool.{true}
use Rattle.words.specs.Below.{concat}
use Rattle.sheet.specs.Asking.{all_yes}
use Rattle.sheet.specs.Questions.{line_questions}
use Rattle.line_questions.proofs.lines_stage.Given as goal

abbrev pub invariant-loop-k : goal.invariant-loop-k
invariant-loop-k l = all_yes (concat l.k (line_questions l.mode l.s l.header)) ≡ true
