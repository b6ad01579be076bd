-- Output 0 has the result's table, and a later one the next carry's.
use Rattle.bit_gates.specs.Gates.{inputs_in, function_of, IsTable}
use Rattle.bit_gates.proofs.OutputCounts.{at_first, at_later, later_output, some_carried}
use Rattle.bit_gates.proofs.outputs.output_table.Goals as goal

pub carry_table-requires : goal.carry_table-requires
carry_table-requires c =
    let a = c.args in
    (c.requires.0, some_carried a.run a.i a.j c.requires.1 c.if-j-eq0.false)

pub returns-then-j-eq0 : goal.returns-then-j-eq0
returns-then-j-eq0 c =
    let a = c.args in
    at_first (λ j. IsTable (function_of a.run j) (inputs_in a.run a.i) c.result_table.result) a.j c.if-j-eq0.true c.result_table.ensures

pub returns-else-j-eq0 : goal.returns-else-j-eq0
returns-else-j-eq0 c =
    let a = c.args in
    at_later (λ j. IsTable (function_of a.run j) (inputs_in a.run a.i) c.carry_table.result) a.j c.if-j-eq0.false
    (λ k. later_output a.run (λ f. IsTable f (inputs_in a.run a.i) c.carry_table.result) k c.carry_table.ensures)
