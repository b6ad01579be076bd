-- A word of the second is an input or a line's result.
use Prim.Native.Nat.{◌-◌}
use native.Mathlib.Omega.{arith}
use mathlib.Core.Path.{sym}
use borrow.Author.Tests.{le-ltb}
use Rattle.trail.specs.Trail.{input_count}
use Rattle.trail.specs.Joining.{joined_word}
use Rattle.trail.proofs.JoinedLines.{word_input}
use Rattle.joined_lines.proofs.joined_word.Goals as goal

pub returns-then-j-inputs : goal.returns-then-j-inputs
returns-then-j-inputs c =
    let a = c.args in
    λ t u _ _ inputs. sym (word_input t u a.names.now a.j (omega (arith, inputs)))

pub returns : goal.returns
unfolding joined_word
returns c =
    let j = c.args.j in
    λ t u first-inputs first-lines inputs.
    rw (le-ltb j (input_count u) (omega (arith, inputs))) (omega (arith, first-inputs, first-lines, inputs))
