-- The carry's literal comes last where the kind has carries, above bit 0; else there is none.
use native.Mathlib.Omega.{arith}
use mathlib.Core.Path.{refl, sym, ap, ◌∙◌}
use mathlib.Core.List.{List, ◌++◌}
use lib.IntN.{ℤ}
use Rattle.bit_gates.specs.Gates.{gathered}
use Rattle.run_literals.proofs.RunLiterals.{made_held}
use Rattle.bit_gates.proofs.Gathering.{gathers_as, none_more, carry_literals, none_lowest, no_carries}
use Rattle.bit_gates.proofs.inputs.with_carry.Goals as goal

pub returns-then-i-eq0 : goal.returns-then-i-eq0
returns-then-i-eq0 c =
    let a = c.args in
    none_more a.inputs (omega arith) c.requires.0 (none_lowest a.run a.i c.if-i-eq0.true)

pub with-requires : goal.with-requires
with-requires c =
    (gathers_as (omega arith) refl c.requires.0, (made_held c.carry_literal.ensures).1)

pub returns-then-has_carries : goal.returns-then-has_carries
returns-then-has_carries c =
    let a = c.args in
    let some = sym c.has_carries.ensures ∙ c.if-has_carries.true in
    let above = c.if-i-eq0.false in
    let more = carry_literals a.run a.i some above (made_held c.carry_literal.ensures) in
    gathers_as (omega (arith, c.requires.0.count_most)) (ap (λ (ls : List ℤ). gathered a.inputs ++ ls) more) c.with.ensures

pub returns-else-has_carries : goal.returns-else-has_carries
returns-else-has_carries c =
    let a = c.args in
    let none = sym c.has_carries.ensures ∙ c.if-has_carries.false in
    none_more a.inputs (omega arith) c.requires.0 (no_carries a.run a.i none)
