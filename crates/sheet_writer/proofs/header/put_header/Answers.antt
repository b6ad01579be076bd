-- The pieces of block 0, each written where the one before it ends.
use native.Mathlib.Omega.{arith}
use mathlib.Core.Path.{ap, ◌∙◌}
use lib.ListN.{length}
use Rattle.buffers.proofs.LittleEndian.{length_bytes_of}
use Rattle.sheet.specs.Fields.{trail_of}
use Rattle.sheet.proofs.FormSizes.{sizes}
use Rattle.sheet_encoding.proofs.Encoding.{inputs_length}
use Rattle.sheet_encoding.proofs.FormLaws.{mark_long}
use Rattle.sheet_writer.proofs.HeaderBytes.{header_written}
use Rattle.sheet_writer.proofs.header.put_header.Goals as goal

pub put_number-lines_at-requires : goal.put_number-lines_at-requires
put_number-lines_at-requires c =
    let h = c.args.sheet.now.header in
    omega (arith, mark_long h.form, length_bytes_of 1 h.width)

pub put_number-inputs_at-requires : goal.put_number-inputs_at-requires
put_number-inputs_at-requires c =
    let h = c.args.sheet.now.header in
    omega (arith, mark_long h.form, length_bytes_of 1 h.width, length_bytes_of 1 h.inputs)

pub put_inputs-rest_at-requires : goal.put_inputs-rest_at-requires
put_inputs-rest_at-requires c =
    let h = c.args.sheet.now.header in
    omega (arith, mark_long h.form, length_bytes_of 1 h.width, length_bytes_of 1 h.inputs, length_bytes_of 2 c.args.lines, (sizes h.form).inputs_inside)

pub put_zeros-requires : goal.put_zeros-requires
put_zeros-requires c =
    let a = c.args in
    let h = a.sheet.now.header in
    omega (arith, mark_long h.form, length_bytes_of 1 h.width, length_bytes_of 1 h.inputs, length_bytes_of 2 a.lines, inputs_length h.form (trail_of a.sheet.now.bytes.now), (sizes h.form).inputs_inside)

pub returns : goal.returns
returns c =
    let h = c.args.sheet.now.header in
    let mark = c.put_mark-width_at.ensures in
    let width = c.put_number-count_at.ensures in
    let count = c.put_number-lines_at.ensures in
    let lines = c.put_number-inputs_at.ensures in
    let inputs = c.put_inputs-rest_at.ensures in
    let end = c.inputs_end.ensures in
    let zeros = c.put_zeros.ensures in
    λ t same_width_lem same_inputs same_lines.
    let same_count = ap length same_inputs ∙ c.args.sheet.now.read.inputs in
    header_written h.form t c.requires mark (rw (← same_width_lem) at width) (rw (← same_count) at count) (rw (← same_lines) at lines)
    (rw (← same_inputs) at inputs) (rw end at zeros)
