-- The input differences end within the header.
use native.Mathlib.Omega.{arith}
use Rattle.sheet.proofs.FormSizes.{sizes}
use Rattle.sheet_fields.proofs.sizes.inputs_end.Goals as goal

pub overflow_mul-result : goal.overflow_mul-result
overflow_mul-result c = omega (arith, (sizes c.args.form).inputs_inside)

pub overflow_add-result : goal.overflow_add-result
overflow_add-result c = omega (arith, (sizes c.args.form).inputs_inside)
