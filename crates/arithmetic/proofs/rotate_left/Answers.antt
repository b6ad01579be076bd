-- `rotate_left_lem` joins the word shifted up, cut at n bits, and the bits that left at the top.
use Rattle.std.proofs.Common.{◌*◌, ◌^◌, arith}
use Rattle.words.proofs.Masks.{and_ones}
use Rattle.words.proofs.Rotations.{or_rotate_left}
use Rattle.arithmetic.proofs.rotate_left.Goals as goal

pub returns : goal.returns
returns c =
    let a = c.args in
    rw (c.mask.ensures, and_ones 64 a.n (a.x * 2 ^ a.r) (omega arith))
    (or_rotate_left a.n a.r a.x (omega arith) (omega arith))
