-- The literals of the three parts of a bit's inputs, one behind the other, are those of the inputs.
use native.Mathlib.Omega.{arith}
use mathlib.Core.Path.{sym, ap, ◌∙◌}
use mathlib.Core.List.{List, ◌++◌}
use lib.IntN.{ℤ}
use Rattle.cnf.specs.Gates.{literals}
use Rattle.bit_gates.specs.Gates.{others_in, carries_in}
use Rattle.bit_gates.proofs.Gathering.{gathers_as, inputs_parts}
use Rattle.bit_gates.proofs.inputs.gather.Goals as goal

pub with_second-operands-requires : goal.with_second-operands-requires
with_second-operands-requires c =
    let first = c.first_input-first.ensures in
    (gathers_as (omega arith) (sym first.are) first, c.requires)

pub with_carry-requires : goal.with_carry-requires
with_carry-requires c =
    let operands = c.with_second-operands.ensures in
    (gathers_as (omega arith) (sym operands.are) operands, c.requires)

pub returns : goal.returns
returns c =
    let a = c.args in
    let first = c.first_input-first.ensures.are in
    let operands = c.with_second-operands.ensures.are ∙ ap (λ (ls : List ℤ). ls ++ literals (others_in a.run a.i)) first in
    gathers_as (omega arith) (ap (λ (ls : List ℤ). ls ++ literals (carries_in a.run a.i)) operands ∙ inputs_parts a.run a.i) c.with_carry.ensures
