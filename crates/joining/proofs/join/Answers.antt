-- `join` reads the first sheet, then the second, and hands both on.
use mathlib.Core.Path.{sym, ap, ◌∙◌}
use Prim.Native.Nat.{ℕ}
use Rattle.answers.specs.Calls.{Call}
use Rattle.answers.proofs.Calling.{was_read, asks_own, refuses_too, kept_too}
use Rattle.joining.proofs.Calling.{both_read}
use Rattle.joining.proofs.join.Goals as goal

pub returns-in_err-a : goal.returns-in_err-a
returns-in_err-a c = kept_too _ _ _ _ _ c.from_residual.ensures.1 (refuses_too _ _ _ _ c.in_err-a.ensures)

pub returns-in_err-b : goal.returns-in_err-b
returns-in_err-b c =
    kept_too _ _ _ _ _ c.from_residual-in_err-b.ensures.1
    (asks_own _ c.in_ok-a.ensures _ _ (refuses_too _ _ _ _ c.in_err-b.ensures))

pub invariant_of-one : goal.invariant_of-one
invariant_of-one c = record { read = was_read _ c.in_ok-a.ensures }

pub invariant_of-two : goal.invariant_of-two
invariant_of-two c = record { read = was_read _ c.in_ok-b.ensures }

pub returns : goal.returns
returns c =
    let a = c.args in
    let one = was_read _ c.in_ok-a.ensures in
    let two = was_read _ c.in_ok-b.ensures in
    let same = sym (both_read a.names.now a.out.now one two) in
    let made = c.join_read.ensures in
    (made.0 ∙ ap (λ (call : Call ℕ). call.answer) same, made.1 ∙ ap (λ (call : Call ℕ). call.buffer) same)
