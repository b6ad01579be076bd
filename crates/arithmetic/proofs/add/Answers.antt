-- `add` wraps at 64 bits and keeps the n lowest.
use Rattle.std.proofs.Common.{◌+◌, arith}
use Rattle.words.specs.Words.{sum_modulo}
use Rattle.words.proofs.Masks.{and_ones}
use Rattle.arithmetic.proofs.add.Goals as goal

pub returns : goal.returns
unfolding sum_modulo
returns c =
    rw (c.wrapping_add_u64.ensures.value, c.mask.ensures)
    (and_ones 64 c.args.n (c.args.x + c.args.y) (omega arith))
