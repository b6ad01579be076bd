-- `subtract` wraps at 64 bits and keeps the n lowest.
use Rattle.std.proofs.Common.{◌∙◌, arith}
use lib.Bits.{and_mask}
use Rattle.words.proofs.Subtraction.{minus_wrapped}
use Rattle.arithmetic.proofs.subtract.Goals as goal

pub returns : goal.returns
returns c =
    let a = c.args in
    let r = c.wrapping_sub_u64.result in
    rw c.mask.ensures (and_mask r a.n ∙ minus_wrapped 64 a.n a.x a.y r (omega arith) c.wrapping_sub_u64.ensures.value)
