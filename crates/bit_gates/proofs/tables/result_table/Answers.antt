-- The constant's bit chooses between the two tables.
use mathlib.Core.Path.{sym, ◌∙◌}
use mathlib.Core.Bool.{true, false}
use Rattle.bit_gates.proofs.RunTables.{result_is}
use Rattle.bit_gates.proofs.tables.result_table.Goals as goal

pub returns-then-bit : goal.returns-then-bit
returns-then-bit c =
    result_is c.args.run c.args.i true (sym c.bit.ensures ∙ c.if-bit.true)

pub returns-else-bit : goal.returns-else-bit
returns-else-bit c =
    result_is c.args.run c.args.i false (sym c.bit.ensures ∙ c.if-bit.false)
