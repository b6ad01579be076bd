-- By cases on the form.
use native.Mathlib.Omega.{arith}
use Rattle.sheet.proofs.FormSizes.{word_bytes_lem}
use Rattle.sheet_fields.proofs.word_at.Goals as goal

pub u32_at-requires : goal.u32_at-requires
u32_at-requires c = omega (arith, word_bytes_lem c.args.form)

pub returns : goal.returns
returns c = rw (← word_bytes_lem c.args.form) c.u32_at.ensures.0
