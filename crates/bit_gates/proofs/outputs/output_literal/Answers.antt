-- Output 0 is the made word's bit, and a later one the next carry.
use Rattle.bit_gates.specs.Gates.{output_in}
use Rattle.run_literals.proofs.RunLiterals.{held, Made, made_held}
use Rattle.bit_gates.proofs.OutputCounts.{at_first, at_later}
use Rattle.bit_gates.proofs.outputs.output_literal.Goals as goal

pub returns-then-j-eq0 : goal.returns-then-j-eq0
returns-then-j-eq0 c =
    let a = c.args in
    at_first (λ j. Made (output_in a.run a.i j) (held c.made_literal.result)) a.j c.if-j-eq0.true
    (made_held c.made_literal.ensures)

pub returns-else-j-eq0 : goal.returns-else-j-eq0
returns-else-j-eq0 c =
    let a = c.args in
    at_later (λ j. Made (output_in a.run a.i j) (held c.carry_literal.result)) a.j c.if-j-eq0.false
    (λ k. made_held c.carry_literal.ensures)
