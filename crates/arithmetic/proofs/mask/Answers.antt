-- `mask` shifts 64 ones down until n of them are left.
use Rattle.std.proofs.Common.{arith}
use Rattle.words.proofs.Masks.{ones_shifted}
use Rattle.arithmetic.proofs.mask.Goals as goal

pub returns : goal.returns
returns c = ones_shifted 64 c.args.n (omega arith)
