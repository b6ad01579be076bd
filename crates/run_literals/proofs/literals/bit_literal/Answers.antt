-- A sheet's variables are small, so nothing wraps; the sign is the bit that shift and mask give.
use native.Mathlib.Omega.{arith}
use Prim.Native.Nat.{◌+◌, ◌*◌}
use lib.IntN.{pos}
use Rattle.gate_writer.proofs.Signs.{minus_fits}
use Rattle.run_literals.proofs.RunLiterals.{variable_most, negated_where_one, kept_where_none}
use Rattle.run_literals.proofs.literals.bit_literal.Goals as goal

pub overflow_mul-variable : goal.overflow_mul-variable
overflow_mul-variable c =
    let most = variable_most c.args.n c.args.word c.args.difference c.args.i c.requires.0 c.requires.1 c.requires.2 in
    omega arith

pub overflow_add-variable : goal.overflow_add-variable
overflow_add-variable c =
    let most = variable_most c.args.n c.args.word c.args.difference c.args.i c.requires.0 c.requires.1 c.requires.2 in
    omega arith

pub overflow_add-variable-2 : goal.overflow_add-variable-2
overflow_add-variable-2 c =
    let most = variable_most c.args.n c.args.word c.args.difference c.args.i c.requires.0 c.requires.1 c.requires.2 in
    omega arith

pub overflow_cast-variable-2 : goal.overflow_cast-variable-2
overflow_cast-variable-2 c =
    let most = variable_most c.args.n c.args.word c.args.difference c.args.i c.requires.0 c.requires.1 c.requires.2 in
    record { sfits = omega arith }

pub overflow_sub-result : goal.overflow_sub-result
overflow_sub-result c =
    let a = c.args in
    let most = variable_most a.n a.word a.difference a.i c.requires.0 c.requires.1 c.requires.2 in
    minus_fits (pos (a.n * a.word + a.i + 1)) (omega arith)

pub returns-then-difference-i-eq1 : goal.returns-then-difference-i-eq1
returns-then-difference-i-eq1 c =
    let a = c.args in
    negated_where_one a.n a.word a.difference a.i c.requires.0 c.requires.1 c.requires.2 c.if-difference-i-eq1.true

pub returns-else-difference-i-eq1 : goal.returns-else-difference-i-eq1
returns-else-difference-i-eq1 c =
    let a = c.args in
    kept_where_none a.n a.word a.difference a.i c.requires.0 c.requires.1 c.requires.2 c.if-difference-i-eq1.false
