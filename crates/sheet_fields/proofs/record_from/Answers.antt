-- Each field of a record at its offset.
use native.Mathlib.Omega.{arith}
use Rattle.sheet.proofs.FormSizes.{sizes}
use Rattle.sheet_fields.proofs.record_from.Goals as goal

pub byte_at-kind-requires : goal.byte_at-kind-requires
byte_at-kind-requires c = omega (arith, (sizes c.args.form).record_holds)

pub byte_at-amount-requires : goal.byte_at-amount-requires
byte_at-amount-requires c = omega (arith, (sizes c.args.form).record_holds)

pub u16_at-first-requires : goal.u16_at-first-requires
u16_at-first-requires c = omega (arith, (sizes c.args.form).record_holds)

pub u16_at-second-requires : goal.u16_at-second-requires
u16_at-second-requires c = omega (arith, (sizes c.args.form).record_holds)

pub u16_at-zero-requires : goal.u16_at-zero-requires
u16_at-zero-requires c = omega (arith, (sizes c.args.form).record_holds)

pub word_at-constant-requires : goal.word_at-constant-requires
word_at-constant-requires c = omega (arith, (sizes c.args.form).record_holds)

pub overflow_add-at-7 : goal.overflow_add-at-7
overflow_add-at-7 c = omega (arith, (sizes c.args.form).record_holds)

pub word_at-difference-requires : goal.word_at-difference-requires
word_at-difference-requires c = omega (arith, (sizes c.args.form).record_holds)

pub returns : goal.returns
returns c = cc
