-- `buffers::put_all` meets its contract: the values are copied over the buffer's first elements. Assumes nothing.
use native.Mathlib.Omega.{arith}
use lib.ListN.{length}
use mathlib.Core.Path.{refl}
use Rattle.buffers.proofs.Appending.{wrote_part}
use Rattle.buffers.proofs.put_all.Goals as goal

pub returns : goal.returns
returns c = wrote_part 0 (length c.args.values.now) refl (omega arith) c.copy_from_slice.ensures.after
