use native.Mathlib.Omega.{arith}
use Prim.Native.Nat.{◌<◌}
use mathlib.Core.Path.{refl}
use mathlib.Core.List.{[], ◌∷◌}
use lib.ListN.{length}
use Rattle.buffers.proofs.Appending.{left_fits, left_take, left_done, wrote_set}
use Rattle.decimal.specs.Decimal.{spaced, behind}
use Rattle.decimal.proofs.Writing.{line_next, line_end}
use Rattle.decimal.proofs.put_numbers.Goals as goal

pub put_spaced-next-requires : goal.put_spaced-next-requires
put_spaced-next-requires c =
    let here = c.loop-number in
    left_fits (spaced _) (behind _) (line_next c.args.numbers.now here.number-index (omega arith)) here.invariant

pub loop-number-preserved : goal.loop-number-preserved
loop-number-preserved c =
    let here = c.loop-number in
    left_take (line_next c.args.numbers.now here.number-index (omega arith)) here.invariant c.put_spaced-next.ensures

pub bounds-out-next : goal.bounds-out-next
bounds-out-next c =
    let here = c.loop-number in
    omega (arith, left_fits (10 ∷ []) [] (line_end c.args.numbers.now here.number-index (omega arith)) here.invariant)

pub returns : goal.returns
returns c =
    let here = c.loop-number in
    let end = line_end c.args.numbers.now here.number-index (omega arith) in
    let room : here.next < length here.out = omega (arith, left_fits (10 ∷ []) [] end here.invariant) in
    left_done refl (left_take end here.invariant (wrote_set here.next 10 here.out room))
