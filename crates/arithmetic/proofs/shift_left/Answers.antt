-- `shift_left` cuts what it shifts up at n bits.
use Rattle.std.proofs.Common.{◌*◌, ◌^◌, arith}
use Rattle.words.specs.Words.{shift_left}
use Rattle.words.proofs.Masks.{and_ones}
use Rattle.arithmetic.proofs.shift_left.Goals as goal

pub returns : goal.returns
unfolding shift_left
returns c =
    let a = c.args in
    rw c.mask.ensures (and_ones 64 a.n (a.x * 2 ^ a.r) (omega arith))
