-- In the first run no literal is negated.
use native.Mathlib.Omega.{arith}
use Rattle.line_clauses.proofs.SameRun.{first_proper, first_run_is}
use Rattle.line_clauses.proofs.first_run.Goals as goal

pub overflow_add-result : goal.overflow_add-result
overflow_add-result c =
    let limits = c.args.sheet.now.read.limits in
    omega (arith, limits.inputs_most, limits.lines_most)

pub invariant_of-result : goal.invariant_of-result
invariant_of-result c =
    let a = c.args in
    record { proper = first_proper a.sheet.now.bytes.now a.sheet.now.header c.args.sheet.now.read a.k c.requires.0 c.line_at.result a.before c.line_at.ensures c.requires.1 }

pub returns : goal.returns
returns c =
    let a = c.args in
    first_run_is a.sheet.now.bytes.now a.sheet.now.header c.args.sheet.now.read a.k c.requires.0 c.line_at.result a.before c.line_at.ensures c.requires.1 _
