-- The kind chooses carry or borrow; then the constant's bit, or the bit's place, chooses between two tables.
use mathlib.Core.Path.{sym, ◌∙◌}
use mathlib.Core.Bool.{true, false}
use Rattle.bit_gates.proofs.RunTables.{carry_is, borrow_lowest, borrow_above}
use Rattle.bit_gates.proofs.tables.carry_table.Goals as goal

pub returns-then-i-eq0 : goal.returns-then-i-eq0
returns-then-i-eq0 c =
    let a = c.args in
    borrow_lowest a.run a.i c.in-9.is c.if-i-eq0.true

pub returns-else-i-eq0 : goal.returns-else-i-eq0
returns-else-i-eq0 c =
    let a = c.args in
    borrow_above a.run a.i c.in-9.is c.if-i-eq0.false

pub returns-then-bit : goal.returns-then-bit
returns-then-bit c =
    carry_is c.args.run c.args.i c.requires.1 c.in_default.in_default-own.rest.1 true (sym c.bit.ensures ∙ c.if-bit.true)

pub returns-else-bit : goal.returns-else-bit
returns-else-bit c =
    carry_is c.args.run c.args.i c.requires.1 c.in_default.in_default-own.rest.1 false (sym c.bit.ensures ∙ c.if-bit.false)
