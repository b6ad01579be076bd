-- The fields of a report, each written where the one before it ends, are its bytes.
use native.Mathlib.Omega.{arith}
use borrow.Author.Rules.{rules}
use Rattle.buffers.proofs.LittleEndian.{length_bytes_of}
use Rattle.report_buffer.proofs.ReportBytes.{fields_written}
use Rattle.report_buffer.proofs.put_fields.Goals as goal

pub put_number-chains_at-requires : goal.put_number-chains_at-requires
put_number-chains_at-requires c =
    let a = c.args in
    omega (arith, length_bytes_of 1 a.number)

pub put_number-weight_at-requires : goal.put_number-weight_at-requires
put_number-weight_at-requires c =
    let a = c.args in
    omega (arith, length_bytes_of 1 a.number, length_bytes_of 1 0)

pub put_number-fitting_at-requires : goal.put_number-fitting_at-requires
put_number-fitting_at-requires c =
    let a = c.args in
    omega (arith, length_bytes_of 1 a.number, length_bytes_of 1 0, length_bytes_of 2 a.chains)

pub put_number-requires : goal.put_number-requires
put_number-requires c =
    let a = c.args in
    omega (arith, length_bytes_of 1 a.number, length_bytes_of 1 0, length_bytes_of 2 a.chains, length_bytes_of 4 a.weight)

pub returns : goal.returns
returns c =
    let a = c.args in
    let number = c.put_number-zero_at in
    let zero = c.put_number-chains_at in
    let chains = c.put_number-weight_at in
    let weight = c.put_number-fitting_at in
    let fitting = c.put_number in
    fields_written a.number a.chains a.weight a.fitting c.requires (search rules) (search rules) (search rules)
    number.ensures zero.ensures chains.ensures weight.ensures fitting.ensures
