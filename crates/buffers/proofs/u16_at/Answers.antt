-- `buffers::u16_at` meets its contract: the definition, opened, is the sum of the two bytes. Assumes nothing.
use borrow.Author.Rules.{rules}
use Rattle.buffers.specs.LittleEndian.{number_at}
use Rattle.buffers.proofs.u16_at.Goals as goal

pub returns : goal.returns
unfolding number_at
returns c = search rules
