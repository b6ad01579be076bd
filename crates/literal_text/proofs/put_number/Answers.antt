-- A 0 closes a clause and its line; behind a literal comes a blank. Assumes nothing.
use native.Mathlib.Omega.{arith}
use Prim.Native.Nat.{◌<◌}
use mathlib.Core.Path.{ap, subst}
use lib.ListN.{length, length-set}
use lib.IntN.{ℤ}
use mir.Facts.{to_z-of_z}
use Rattle.buffers.specs.Overwrite.{Wrote}
use Rattle.dimacs.specs.Text.{literal_text}
use Rattle.literal_text.proofs.Writing.{is_zero, is_literal, zero_wrote, literal_room, blank_room, blank_wrote}
use Rattle.literal_text.proofs.put_number.Goals as goal

pub bounds-out-at : goal.bounds-out-at
bounds-out-at c =
    omega (arith, ap length (is_zero c.args.number c.ranges.number c.if-number-eq0.true))

pub bounds-out-at-then-number-eq0 : goal.bounds-out-at-then-number-eq0
bounds-out-at-then-number-eq0 c =
    rw length-set (omega (arith, ap length (is_zero c.args.number c.ranges.number c.if-number-eq0.true)))

pub returns-then-number-eq0 : goal.returns-then-number-eq0
returns-then-number-eq0 c =
    zero_wrote (is_zero c.args.number c.ranges.number c.if-number-eq0.true) c.requires.1

pub put_literal-next-requires : goal.put_literal-next-requires
put_literal-next-requires c =
    rw (to_z-of_z c.ranges.number)
    (c.requires.0, literal_room (literal_text c.args.number) c.args.at c.args.out.now (is_literal c.args.number c.if-number-eq0.false) c.requires.1)

pub bounds-out-next : goal.bounds-out-next
bounds-out-next c =
    let put = subst (λ (z : ℤ). Wrote c.args.at (literal_text z) c.args.out.now c.put_literal-next.result c.put_literal-next.new.out)
    (to_z-of_z c.ranges.number) c.put_literal-next.ensures in
    blank_room (literal_text c.args.number) c.args.at c.args.out.now (is_literal c.args.number c.if-number-eq0.false) c.requires.1 put

pub overflow_add-result-2 : goal.overflow_add-result-2
overflow_add-result-2 c =
    let put = subst (λ (z : ℤ). Wrote c.args.at (literal_text z) c.args.out.now c.put_literal-next.result c.put_literal-next.new.out)
    (to_z-of_z c.ranges.number) c.put_literal-next.ensures in
    let room : c.put_literal-next.result < length c.put_literal-next.new.out =
    blank_room (literal_text c.args.number) c.args.at c.args.out.now (is_literal c.args.number c.if-number-eq0.false) c.requires.1 put in
    omega (arith, c.put_literal-next.auto.out)

pub returns : goal.returns
returns c =
    let put = subst (λ (z : ℤ). Wrote c.args.at (literal_text z) c.args.out.now c.put_literal-next.result c.put_literal-next.new.out)
    (to_z-of_z c.ranges.number) c.put_literal-next.ensures in
    blank_wrote (literal_text c.args.number) c.args.at c.args.out.now (is_literal c.args.number c.if-number-eq0.false) c.requires.1 put
