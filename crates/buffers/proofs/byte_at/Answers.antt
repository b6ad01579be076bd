-- `buffers::byte_at` meets its contract: an element of a slice of bytes, at any index, is below 256. Assumes nothing.
use mir.Facts.{Fits-widen}
use borrow.Author.Rules.{rules}
use Rattle.buffers.proofs.byte_at.Goals as goal

pub overflow_cast-result : goal.overflow_cast-result
overflow_cast-result c = Fits-widen tt (c.shared_slice_known-1.given _)

pub returns : goal.returns
returns c = (search rules, (c.shared_slice_known-1.given _).fits)
