-- Where the table's bit is 1 the row of output 0 is wrong, and else that of output 1.
use native.Mathlib.Omega.{arith}
use mathlib.Core.Path.{◌∙◌, sym}
use Rattle.gate_writer.proofs.wrong_row.Goals as goal

pub returns-then-bit : goal.returns-then-bit
returns-then-bit c = rw (sym c.bit.ensures ∙ c.if-bit.true) (omega arith)

pub returns-else-bit : goal.returns-else-bit
returns-else-bit c = rw (sym c.bit.ensures ∙ c.if-bit.false) (omega arith)
