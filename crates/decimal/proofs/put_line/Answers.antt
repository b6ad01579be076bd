-- The numbers stand where the word ends. Assumes nothing.
use mathlib.Core.Path.{refl}
use Rattle.buffers.proofs.Appending.{left_start, left_fits, left_step, left_room, left_last}
use Rattle.decimal.specs.Decimal.{behind}
use Rattle.decimal.proofs.put_line.Goals as goal

pub put_text-next-requires : goal.put_text-next-requires
put_text-next-requires c =
    left_fits c.args.word.now (behind c.args.numbers.now) refl (left_start _ _ c.args.out.now c.requires)

pub put_numbers-requires : goal.put_numbers-requires
put_numbers-requires c =
    let text = c.put_text-next in
    left_room (left_step c.args.word.now (behind c.args.numbers.now) (left_start _ _ _ c.requires) text.ensures)

pub returns : goal.returns
returns c =
    let text = c.put_text-next in
    left_last (left_step c.args.word.now (behind c.args.numbers.now) (left_start _ _ _ c.requires) text.ensures)
    c.put_numbers.ensures
