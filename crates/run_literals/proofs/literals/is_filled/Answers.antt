-- Each shift's own test, and no other kind fills zeros in.
use native.Mathlib.Omega.{arith}
use mathlib.Core.Path.{◌≡◌, refl, sym}
use mathlib.Core.Bool.{true}
use Rattle.trail.specs.Kinds.{kind_of, uses_amount}
use Rattle.trail.proofs.KindNumbers.{at_key, known_within}
use Rattle.run_literals.proofs.KindRows.{unfilled, left_filled, right_filled}
use Rattle.run_literals.proofs.literals.is_filled.Goals as goal

pub overflow_add-result : goal.overflow_add-result
unfolding kind_of
overflow_add-result c =
    let line = c.args.run.proper.line_right in
    omega (arith, line.amount_most (at_key (λ q. uses_amount q ≡ true) c.in-8.is refl))

pub returns-in-7 : goal.returns-in-7
returns-in-7 c =
    let a = c.args in
    left_filled a.run.line.kind a.run.width a.run.line.amount a.i c.in-7.is

pub returns-in-8 : goal.returns-in-8
returns-in-8 c =
    let a = c.args in
    right_filled a.run.line.kind a.run.width a.run.line.amount a.i c.in-8.is

pub returns-in_default : goal.returns-in_default
returns-in_default c =
    let a = c.args in
    let k = a.run.line.kind in
    let within = known_within k c.args.run.proper.line_right.kind_known in
    sym (unfilled k a.run.width a.run.line.amount a.i within.0 within.1 c.in_default.in_default-own.rest.0.1 c.in_default.in_default-own.rest.1)
