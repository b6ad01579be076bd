-- The second operand's literal is the one beside the first where the kind uses it, and else there is none.
use native.Mathlib.Omega.{arith}
use mathlib.Core.Path.{refl, sym, ap, ◌∙◌}
use mathlib.Core.List.{List, ◌++◌}
use lib.IntN.{ℤ}
use Rattle.bit_gates.specs.Gates.{gathered}
use Rattle.run_literals.proofs.RunLiterals.{made_held}
use Rattle.bit_gates.proofs.Gathering.{gathers_as, none_more, second_literals, no_second}
use Rattle.bit_gates.proofs.inputs.with_second.Goals as goal

pub with-requires : goal.with-requires
with-requires c =
    (gathers_as (omega arith) refl c.requires.0, (made_held c.second_literal.ensures).1)

pub returns-then-uses_second : goal.returns-then-uses_second
returns-then-uses_second c =
    let a = c.args in
    let uses = sym c.uses_second.ensures ∙ c.if-uses_second.true in
    let more = second_literals a.run a.i uses (made_held c.second_literal.ensures) in
    gathers_as (omega (arith, c.requires.0.count_most)) (ap (λ (ls : List ℤ). gathered a.inputs ++ ls) more) c.with.ensures

pub returns-else-uses_second : goal.returns-else-uses_second
returns-else-uses_second c =
    let a = c.args in
    let uses = sym c.uses_second.ensures ∙ c.if-uses_second.false in
    none_more a.inputs (omega arith) c.requires.0 (no_second a.run a.i uses)
