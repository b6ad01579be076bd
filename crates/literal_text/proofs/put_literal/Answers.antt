-- The variable is written behind the minus, or from the start. Assumes nothing.
use native.Mathlib.Omega.{arith}
use Prim.Native.Nat.{ℕ}
use mathlib.Core.Path.{◌≡◌, sym, ap, subst, ◌∙◌}
use mathlib.Core.List.{List, ◌∷◌}
use lib.ListN.{length, length-set}
use lib.IntN.{nat_abs}
use mir.Facts.{to_z-of_z}
use Rattle.buffers.specs.Overwrite.{Wrote}
use Rattle.decimal.specs.Decimal.{decimal}
use Rattle.literal_text.proofs.Writing.{has_minus, has_none, minus_wrote}
use Rattle.literal_text.proofs.put_literal.Goals as goal

pub bounds-out-at : goal.bounds-out-at
bounds-out-at c =
    omega (arith, ap length (has_minus c.args.literal c.ranges.literal c.if-literal-lt0.true))

pub put_quick-requires : goal.put_quick-requires
put_quick-requires c =
    let size : c.magnitude-variable.result ≡ nat_abs c.args.literal = c.magnitude-variable.ensures ∙ ap nat_abs (to_z-of_z c.ranges.literal) in
    let text = has_minus c.args.literal c.ranges.literal c.if-literal-lt0.true in (
      omega arith,
      rw length-set (omega (arith, ap length text, ap (λ (n : ℕ). length (decimal n)) size)),
    )

pub shape_of-out-then-literal-lt0 : goal.shape_of-out-then-literal-lt0
shape_of-out-then-literal-lt0 c = c.put_quick.auto.out ∙ simp length-set

pub returns-then-literal-lt0 : goal.returns-then-literal-lt0
returns-then-literal-lt0 c =
    let size : c.magnitude-variable.result ≡ nat_abs c.args.literal =
    c.magnitude-variable.ensures ∙ ap nat_abs (to_z-of_z c.ranges.literal) in
    minus_wrote _ (has_minus c.args.literal c.ranges.literal c.if-literal-lt0.true
    ∙ ap (λ (n : ℕ). 45 ∷ decimal n) (sym size)) c.requires.1 c.put_quick.ensures

pub put_quick-requires-2 : goal.put_quick-requires-2
put_quick-requires-2 c =
    let size : c.magnitude-variable.result ≡ nat_abs c.args.literal = c.magnitude-variable.ensures ∙ ap nat_abs (to_z-of_z c.ranges.literal) in
    let text = has_none c.args.literal c.ranges.literal c.if-literal-lt0.false in
    (omega arith, omega (arith, ap length text, ap (λ (n : ℕ). length (decimal n)) size))

pub returns : goal.returns
returns c =
    let size : c.magnitude-variable.result ≡ nat_abs c.args.literal =
    c.magnitude-variable.ensures ∙ ap nat_abs (to_z-of_z c.ranges.literal) in
    let put = c.put_quick-2 in
    subst (λ (t : List ℕ). Wrote c.args.at t c.args.out.now put.result put.new.out)
    (ap decimal size ∙ sym (has_none c.args.literal c.ranges.literal c.if-literal-lt0.false))
    put.ensures
