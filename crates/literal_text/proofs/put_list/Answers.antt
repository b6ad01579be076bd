use native.Mathlib.Omega.{arith}
use Prim.Native.Nat.{◌+◌, ◌<◌}
use mathlib.Core.Path.{◌≡◌, subst}
use lib.ListN.{drop, get_or}
use lib.IntN.{ℤ, pos, negsuc, nat_abs}
use mir.Syntax.{w32}
use mir.Val.{to_z, of_z}
use mir.Facts.{to_z-of_z}
use Rattle.buffers.specs.Overwrite.{Wrote}
use Rattle.buffers.proofs.Appending.{left_fits, left_take, left_done}
use Rattle.dimacs.specs.Numbers.{number_text, numbers_text}
use Rattle.literal_text.proofs.Writing.{text_next, text_end}
use Rattle.literal_text.proofs.put_list.Goals as goal

-- a small number is read as it stands
read : (z : ℤ) → nat_abs z < 1000000 → to_z w32 (of_z w32 z) ≡ z
read (pos n) h = to_z-of_z {w = w32} (record { sfits = omega arith })
read (negsuc n) h = to_z-of_z {w = w32} (record { sfits = omega arith })

pub put_number-next-requires : goal.put_number-next-requires
put_number-next-requires c =
    let here = c.loop-number in
    let list = c.args.list.now in
    let z : ℤ = get_or list here.number-index (pos 0) in
    let small = c.requires.0 here.number-index (omega arith) in
    rw (read z small) (
      small,
      left_fits (number_text z) (numbers_text (drop (here.number-index + 1) list)) (text_next list here.number-index (omega arith)) here.invariant,
    )

pub loop-number-preserved : goal.loop-number-preserved
loop-number-preserved c =
    let here = c.loop-number in
    let list = c.args.list.now in
    let put = c.put_number-next in
    let e = read (get_or list here.number-index (pos 0)) (c.requires.0 here.number-index (omega arith)) in
    left_take (text_next list here.number-index (omega arith)) here.invariant
    (subst (λ (z : ℤ). Wrote here.next (number_text z) here.out put.result put.new.out) e put.ensures)

pub returns : goal.returns
returns c = left_done (text_end c.args.list.now c.loop-number.number-index (omega arith)) c.loop-number.invariant
