-- The sizes are the form's own, and the record lies within the longest sheet.
use Prim.Native.Nat.{ℕ, ◌+◌, ◌*◌, ◌/◌, ◌%◌, ◌<◌, ◌≤◌}
use native.Mathlib.Omega.{arith}
use Rattle.sheet.specs.Blocks.{block_bytes, length_most}
use Rattle.sheet.specs.Form.{record_bytes, records_in_block}
use Rattle.sheet.specs.Fields.{record_position}
use Rattle.sheet.specs.Facts.{Limited}
use Rattle.sheet.specs.declared.Header.{Header}
use Rattle.sheet.proofs.FormSizes.{sizes, blocks_fit, record_inside}
use Rattle.sheet_fields.proofs.record_position.Goals as goal

inside : (h : Header) (k : ℕ) → Limited h → k < h.lines
    → block_bytes * (1 + k / records_in_block h.form) + record_bytes h.form * (k % records_in_block h.form) + record_bytes h.form
    ≤ length_most
inside h k limits l = omega (arith, record_inside h.form h.lines k l, blocks_fit h.form)

pub overflow_add-result : goal.overflow_add-result
overflow_add-result c = rw c.records_in_block-records.ensures (omega (arith, inside _ _ c.requires.0 c.requires.1))

pub overflow_mul-result : goal.overflow_mul-result
overflow_mul-result c = rw c.records_in_block-records.ensures (omega (arith, inside _ _ c.requires.0 c.requires.1))

pub overflow_mul-result-2 : goal.overflow_mul-result-2
overflow_mul-result-2 c =
    rw (c.record_bytes.ensures, c.records_in_block-records.ensures) (omega (arith, inside _ _ c.requires.0 c.requires.1))

pub overflow_add-result-2 : goal.overflow_add-result-2
overflow_add-result-2 c =
    rw (c.record_bytes.ensures, c.records_in_block-records.ensures) (omega (arith, inside _ _ c.requires.0 c.requires.1))

pub returns : goal.returns
unfolding record_position
returns c = rw (c.record_bytes.ensures, c.records_in_block-records.ensures)

pub nonzero_div-result : goal.nonzero_div-result
nonzero_div-result c = omega (arith, (sizes c.args.header.form).records_least)

pub nonzero_rem-result : goal.nonzero_rem-result
nonzero_rem-result c = omega (arith, (sizes c.args.header.form).records_least)
