-- The text is copied to its place. Assumes nothing.
use native.Mathlib.Omega.{arith}
use Prim.Native.Nat.{◌+◌, ◌-◌}
use lib.ListN.{length}
use Rattle.buffers.proofs.Appending.{wrote_part}
use Rattle.decimal.proofs.put_text.Goals as goal

pub returns : goal.returns
returns c =
    let a = c.args in
    wrote_part a.at (a.at + length a.text.now - a.at) (omega arith) (omega arith) c.copy_from_slice.ensures.after
