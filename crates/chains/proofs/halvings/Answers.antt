-- The ones of the differences' XOR, shifted up by one, below the width.
use native.Mathlib.Omega.{arith}
use mathlib.Core.Path.{refl}
use Prim.Native.Nat.{◌*◌}
use lib.Bits.{bit_xor}
use Rattle.words.proofs.Masks.{and_ones}
use Rattle.differential.proofs.ChainShifts.{halvings_ones, halvings_le}
use Rattle.chains.proofs.halvings.Goals as goal

pub returns : goal.returns
returns c =
    let a = c.args in
    rw (c.mask.ensures, and_ones 64 a.n (bit_xor a.u a.v * 2) (omega arith), halvings_ones)
    (refl, halvings_le a.n a.u a.v)
