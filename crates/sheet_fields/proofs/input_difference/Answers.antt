-- An input difference lies in the header.
use native.Mathlib.Omega.{arith}
use Rattle.sheet.proofs.FormSizes.{input_inside}
use Rattle.sheet_fields.proofs.input_difference.Goals as goal

pub overflow_mul-word_bytes : goal.overflow_mul-word_bytes
overflow_mul-word_bytes c = rw c.word_bytes.ensures (omega (arith, input_inside c.args.form c.args.j (omega arith)))

pub overflow_add-word_bytes : goal.overflow_add-word_bytes
overflow_add-word_bytes c = rw c.word_bytes.ensures (omega (arith, input_inside c.args.form c.args.j (omega arith)))

pub word_at-requires : goal.word_at-requires
word_at-requires c = rw c.word_bytes.ensures (omega (arith, input_inside c.args.form c.args.j (omega arith)))

pub returns : goal.returns
returns c = cc
