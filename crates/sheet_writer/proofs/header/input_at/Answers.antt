-- An input's difference is its word's; past the inputs there is none.
use native.Mathlib.Omega.{arith}
use mathlib.Core.Path.{◌∙◌}
use Rattle.trail.proofs.Differences.{difference_input}
use Rattle.sheet.specs.Fields.{trail_of}
use Rattle.sheet_writer.proofs.header.input_at.Goals as goal

pub returns-then-j-sheet : goal.returns-then-j-sheet
returns-then-j-sheet c =
    let a = c.args in
    c.difference_at.ensures ∙ difference_input (trail_of a.sheet.now.bytes.now) a.j (omega (arith, a.sheet.now.read.inputs))
