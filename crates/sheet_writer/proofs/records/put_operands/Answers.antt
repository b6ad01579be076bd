-- The fields before the constant, each written where the one before it ends.
use native.Mathlib.Omega.{arith}
use Rattle.buffers.proofs.Appending.{left_start, left_step, left_last}
use Rattle.buffers.proofs.LittleEndian.{length_bytes_of}
use Rattle.sheet_writer.proofs.RecordBytes.{operand_bytes, operands_length}
use Rattle.sheet_writer.proofs.records.put_operands.Goals as goal

pub put_number-first_at-requires : goal.put_number-first_at-requires
put_number-first_at-requires c =
    let l = c.args.line in
    omega (arith, length_bytes_of 1 l.kind)

pub put_number-second_at-requires : goal.put_number-second_at-requires
put_number-second_at-requires c =
    let l = c.args.line in
    omega (arith, length_bytes_of 1 l.kind, length_bytes_of 1 l.amount)

pub put_number-zero_at-requires : goal.put_number-zero_at-requires
put_number-zero_at-requires c =
    let l = c.args.line in
    omega (arith, length_bytes_of 1 l.kind, length_bytes_of 1 l.amount, length_bytes_of 2 l.first)

pub put_number-requires : goal.put_number-requires
put_number-requires c =
    let l = c.args.line in
    omega (arith, length_bytes_of 1 l.kind, length_bytes_of 1 l.amount, length_bytes_of 2 l.first, length_bytes_of 2 l.second)

pub returns : goal.returns
returns c =
    let a = c.args in
    let kind = c.put_number-amount_at in
    let amount = c.put_number-first_at in
    let first = c.put_number-second_at in
    let second = c.put_number-zero_at in
    let none = left_start a.at (operand_bytes a.line) a.out.now (omega (arith, operands_length a.line)) in
    left_last
    (left_step _ _ (left_step _ _ (left_step _ _ (left_step _ _ none kind.ensures) amount.ensures) first.ensures) second.ensures)
    c.put_number.ensures
