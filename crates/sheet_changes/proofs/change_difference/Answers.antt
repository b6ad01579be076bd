-- The two places are the form's, and lie in the sheet.
use Rattle.std.proofs.Common.{arith}
use Rattle.sheet.proofs.FormSizes.{sizes}
use Rattle.sheet_changes.proofs.Written.{block_there, field_there, numbers_there, check_asked, change_written}
use Rattle.sheet_changes.proofs.change_difference.Goals as goal

pub overflow_add-at : goal.overflow_add-at
overflow_add-at c =
    omega (arith, field_there c.requires.0 c.args.difference c.requires.1 c.record_position.ensures c.word_bytes-word.ensures)

pub overflow_add-at-2 : goal.overflow_add-at-2
overflow_add-at-2 c =
    omega (arith, field_there c.requires.0 c.args.difference c.requires.1 c.record_position.ensures c.word_bytes-word.ensures)

pub number_sum-old-requires : goal.number_sum-old-requires
number_sum-old-requires c =
    numbers_there c.requires.0 c.args.difference c.requires.1 c.record_position.ensures c.word_bytes-word.ensures

pub put_number-requires : goal.put_number-requires
put_number-requires c =
    field_there c.requires.0 c.args.difference c.requires.1 c.record_position.ensures c.word_bytes-word.ensures

pub number_sum-new-requires : goal.number_sum-new-requires
number_sum-new-requires c =
    let there = numbers_there c.requires.0 c.args.difference c.requires.1 c.record_position.ensures c.word_bytes-word.ensures in
    omega (arith, c.put_number.auto.s)

pub overflow_add-k : goal.overflow_add-k
overflow_add-k c =
    omega (arith, block_there c.requires.0 c.args.difference c.requires.1 c.records_in_block.ensures)

pub renew_check-requires : goal.renew_check-requires
renew_check-requires c =
    let there = block_there c.requires.0 c.args.difference c.requires.1 c.records_in_block.ensures in (
      omega (arith, c.put_number.auto.s),
      there.1,
      check_asked c.requires.0 c.args.difference c.requires.1
          c.record_position.ensures
          c.word_bytes-word.ensures
          c.records_in_block.ensures
          c.put_number.ensures.now_is
          c.number_sum-old.ensures
          c.number_sum-new.ensures,
    )

pub returns : goal.returns
returns c =
    change_written c.requires.0 c.args.difference c.requires.1
    c.record_position.ensures
    c.word_bytes-word.ensures
    c.records_in_block.ensures
    c.put_number.ensures.now_is
    c.renew_check.ensures

pub nonzero_div-k : goal.nonzero_div-k
nonzero_div-k c = omega (arith, (sizes c.args.header.form).records_least)
