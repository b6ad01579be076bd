-- `shift_right` drops the lowest bits.
use Rattle.std.proofs.Common.{refl}
use Rattle.words.specs.Words.{shift_right}
use Rattle.arithmetic.proofs.shift_right.Goals as goal

pub returns : goal.returns
unfolding shift_right
returns c = refl
