-- The records before record j end before the check.
use Rattle.std.proofs.Common.{arith}
use Rattle.sheet.proofs.FormSizes.{records_end}
use Rattle.block_questions.proofs.rest.rest_from.Goals as goal

pub overflow_mul-before : goal.overflow_mul-before
overflow_mul-before c = rw c.record_bytes.ensures (omega (arith, records_end c.args.form c.args.j (omega arith)))

pub overflow_sub-before : goal.overflow_sub-before
overflow_sub-before c = rw c.record_bytes.ensures (omega (arith, records_end c.args.form c.args.j (omega arith)))

pub overflow_add-i-2 : goal.overflow_add-i-2
overflow_add-i-2 c = rw c.record_bytes.ensures (omega (arith, records_end c.args.form c.args.j (omega arith)))

pub zero_bytes-requires : goal.zero_bytes-requires
zero_bytes-requires c = rw c.record_bytes.ensures (omega (arith, records_end c.args.form c.args.j (omega arith)))

pub returns : goal.returns
returns c = rw (← c.record_bytes.ensures) c.zero_bytes.ensures
