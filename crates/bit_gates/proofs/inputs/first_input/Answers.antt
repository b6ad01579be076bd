-- One literal behind none, or none where a zero is filled in.
use native.Mathlib.Omega.{arith}
use mathlib.Core.Path.{refl, sym, ◌∙◌}
use Prim.Native.Nat.{zero, suc}
use mathlib.Core.List.{[]}
use Rattle.gate_writer.specs.Tables.{Small}
use Rattle.run_literals.specs.Run.{word_in, taken_at}
use Rattle.run_literals.proofs.RunLiterals.{made_held}
use Rattle.bit_gates.proofs.Gathering.{gathers_as, one_literal, no_literal}
use Rattle.bit_gates.proofs.inputs.first_input.Goals as goal

small_none : Small []
small_none zero = omega arith
small_none (suc i) = omega arith

pub first_literal-requires : goal.first_literal-requires
first_literal-requires c =
    (c.requires, sym c.is_filled.ensures ∙ c.if-is_filled.false)

pub with-requires : goal.with-requires
with-requires c =
    let made = c.first_literal.ensures in
    (record { count_most = omega arith; length_is = refl; are = refl; small = small_none }, (made_held {m = c.first_literal.result} (refl, made.1)).1)

pub returns-then-is_filled : goal.returns-then-is_filled
returns-then-is_filled c =
    let a = c.args in
    let none = no_literal (taken_at a.run a.i) (word_in a.run a.run.line.first) (sym c.is_filled.ensures ∙ c.if-is_filled.true) in
    gathers_as {m = 0} (omega arith) (sym none) (record { count_most = omega arith; length_is = refl; are = refl; small = small_none })

pub returns-else-is_filled : goal.returns-else-is_filled
returns-else-is_filled c =
    let made = c.first_literal.ensures in
    gathers_as (omega arith) (one_literal made.0 (made_held (refl, made.1)).0) c.with.ensures
