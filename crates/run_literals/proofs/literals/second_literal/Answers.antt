-- The second operand's difference signs its literals, also where it is the first operand too.
use native.Mathlib.Omega.{arith}
use Rattle.trail.proofs.Runs.{second_below}
use Rattle.run_literals.proofs.RunLiterals.{second_signed, word_made}
use Rattle.run_literals.proofs.literals.second_literal.Goals as goal

pub bit_literal-requires : goal.bit_literal-requires
bit_literal-requires c = (c.args.run.proper.width_most, omega (arith, second_below c.args.run.proper.line_right), c.requires)

pub returns : goal.returns
returns c =
    let a = c.args in
    let run = c.args.run in
    word_made run a.run.line.second a.run.second a.i (second_signed run) c.bit_literal.ensures
