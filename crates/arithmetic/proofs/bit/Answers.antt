-- `bit` shifts the word down and keeps its lowest bit.
use Rattle.std.proofs.Common.{◌/◌, ◌^◌}
use lib.Bits.{and_mask}
use Rattle.words.specs.Words.{bit}
use Rattle.arithmetic.proofs.bit.Goals as goal

pub returns : goal.returns
unfolding bit
returns c = rw (and_mask (c.args.x / 2 ^ c.args.i) 1)
