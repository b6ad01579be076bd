-- The pieces of a record, each written where the one before it ends.
use native.Mathlib.Omega.{arith}
use Rattle.buffers.proofs.LittleEndian.{length_bytes_of}
use Rattle.sheet.proofs.FormSizes.{sizes}
use Rattle.sheet_writer.proofs.RecordBytes.{operands_length, record_written}
use Rattle.sheet_writer.proofs.records.put_record.Goals as goal

pub put_number-difference_at-requires : goal.put_number-difference_at-requires
put_number-difference_at-requires c =
    let a = c.args in
    omega (arith, (sizes a.form).record_holds, operands_length a.line)

pub put_number-rest_at-requires : goal.put_number-rest_at-requires
put_number-rest_at-requires c =
    let a = c.args in
    omega (arith, (sizes a.form).record_holds, operands_length a.line, length_bytes_of c.word_bytes-word.result a.line.constant)

pub put_zeros-requires : goal.put_zeros-requires
put_zeros-requires c =
    let a = c.args in
    let w = c.word_bytes-word.result in
    omega (arith, (sizes a.form).record_holds, operands_length a.line, length_bytes_of w a.line.constant, length_bytes_of w a.line.difference)

pub returns : goal.returns
returns c =
    let word = c.word_bytes-word.ensures in
    let operands = c.put_operands-constant_at in
    let constant = c.put_number-difference_at in
    let difference = c.put_number-rest_at in
    let bytes = c.record_bytes.ensures in
    record_written c.args.form c.args.line c.requires operands.ensures (rw word at constant.ensures) (rw word at difference.ensures)
    (rw (bytes, word) at c.put_zeros.ensures)
