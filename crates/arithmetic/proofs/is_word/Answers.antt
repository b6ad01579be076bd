-- `is_word` compares with the largest word.
use Rattle.words.proofs.Masks.{leb_ones}
use Rattle.arithmetic.proofs.is_word.Goals as goal

pub returns : goal.returns
returns c = rw c.mask.ensures (leb_ones c.args.n c.args.x)
