-- The words' variables, and two runs' carries for each line with carries before this one; the limits keep them small.
use Prim.Native.Nat.{◌≤◌}
use native.Mathlib.Omega.{arith}
use Rattle.trail.specs.WellFormed.{most_lines}
use Rattle.clause_sizes.proofs.SheetCounts.{variables_are, word_variables_most, carry_variables_most}
use Rattle.clause_sizes.proofs.counting.variables_before.Goals as goal

pub overflow_add-words : goal.overflow_add-words
overflow_add-words c = omega arith

pub overflow_cast-words : goal.overflow_cast-words
overflow_cast-words c = omega arith

pub overflow_mul-result : goal.overflow_mul-result
overflow_mul-result c = omega (arith, word_variables_most _ _ c.args.sheet.now.read)

pub overflow_sub-result : goal.overflow_sub-result
overflow_sub-result c = omega arith

pub overflow_mul-result-2 : goal.overflow_mul-result-2
overflow_mul-result-2 c = omega arith

pub overflow_mul-result-3 : goal.overflow_mul-result-3
overflow_mul-result-3 c =
    let limits = c.args.sheet.now.read.limits in
    let few : c.args.k ≤ most_lines = omega (arith, limits.lines_most) in
    omega (arith, c.args.sheet.now.read.width_most, carry_variables_most _ _ c.args.sheet.now.read most_lines c.args.k c.carried_before.result few c.carried_before.ensures)

pub overflow_add-result : goal.overflow_add-result
overflow_add-result c =
    let limits = c.args.sheet.now.read.limits in
    let few : c.args.k ≤ most_lines = omega (arith, limits.lines_most) in
    omega (
      arith,
      c.args.sheet.now.read.width_most,
      word_variables_most _ _ c.args.sheet.now.read,
      carry_variables_most _ _ c.args.sheet.now.read most_lines c.args.k c.carried_before.result few c.carried_before.ensures,
    )

pub returns : goal.returns
returns c =
    variables_are c.args.sheet.now.bytes.now c.args.sheet.now.header c.args.sheet.now.read c.args.k c.carried_before.result c.carried_before.ensures
