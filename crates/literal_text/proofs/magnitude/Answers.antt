-- A negative number's size is 1 more than -(z + 1), which is no longer negative. Assumes nothing.
use mathlib.Core.Path.{sym, ap, ◌∙◌, subst}
use Prim.Native.Nat.{◌+◌}
use native.Mathlib.Omega.{arith}
use lib.IntN.{ℤ, nat_abs}
use lib.Dec.{T}
use lib.Signed.{non_neg}
use mir.Syntax.{w32}
use mir.Val.{Fits}
use Rattle.literal_text.proofs.Magnitudes.{turns, is_size}
use Rattle.literal_text.proofs.magnitude.Goals as goal

pub overflow_add-result : goal.overflow_add-result
overflow_add-result c = (turns c.args.number c.ranges.number c.if-number-lt0.true).sum_fits

pub overflow_sub-result : goal.overflow_sub-result
overflow_sub-result c = (turns c.args.number c.ranges.number c.if-number-lt0.true).turned_fits

pub overflow_cast-result : goal.overflow_cast-result
overflow_cast-result c =
    let t = turns c.args.number c.ranges.number c.if-number-lt0.true in
    subst (λ (z : ℤ). T (non_neg z) × Fits w32 (nat_abs z)) (sym t.turned)
    (tt, record { fits = omega (arith, t.less_most) })

pub overflow_add-result-then-number-lt0 : goal.overflow_add-result-then-number-lt0
overflow_add-result-then-number-lt0 c =
    let t = turns c.args.number c.ranges.number c.if-number-lt0.true in
    subst (λ (z : ℤ). Fits w32 (nat_abs z + 1)) (sym t.turned) (record { fits = omega (arith, t.less_most) })

pub returns-then-number-lt0 : goal.returns-then-number-lt0
returns-then-number-lt0 c =
    let t = turns c.args.number c.ranges.number c.if-number-lt0.true in
    ap (λ (z : ℤ). nat_abs z + 1) t.turned ∙ sym t.size

pub overflow_cast-result-2 : goal.overflow_cast-result-2
overflow_cast-result-2 c = is_size c.args.number c.ranges.number c.if-number-lt0.false
