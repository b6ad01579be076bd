use native.Mathlib.Omega.{arith}
use mathlib.Core.Path.{◌≡◌, sym, ap, ◌∙◌}
use mathlib.Core.Bool.{Bool, cond}
use mathlib.Core.List.{[]}
use Prim.Native.Nat.{ℕ, ◌-◌}
use lib.ListN.{length, get_or}
use lib.IntN.{ℤ, pos, neg_ℤ}
use mir.Syntax.{w32}
use mir.Val.{to_z, of_z}
use Rattle.words.specs.Words.{bit}
use Rattle.gate_writer.proofs.Signs.{stored}
use Rattle.gate_writer.proofs.Writing.{length_numbers_clause, put_start, put_next, put_end}
use Rattle.gate_writer.proofs.put_clause.Goals as goal

pub loop-i-init : goal.loop-i-init
loop-i-init c =
    let a = c.args in
    (omega (arith, length_numbers_clause a.lits.now a.row), put_start a.lits.now a.row a.at [] a.out.now [] c.requires.3)

pub loop-i-preserved : goal.loop-i-preserved
loop-i-preserved c =
    let a = c.args in
    let h = c.loop-i in
    let read : ℤ = to_z w32 (of_z w32 (get_or a.lits.now h.i (pos 0))) in
    let one = c.bit.ensures ∙ ap (λ (n : ℕ). bit a.row (n - 1 - h.i)) (sym c.requires.0) in
    let made = c.signed.ensures ∙ ap (λ (b : Bool). cond b (neg_ℤ read) read) one in
    let x = stored (bit a.row (length a.lits.now - 1 - h.i)) (get_or a.lits.now h.i (pos 0)) c.signed.result (c.requires.2 h.i) made in
    (h.invariant.0, put_next a.lits.now a.row a.at _ _ _ h.i _ (omega arith) h.invariant.1 x)

pub returns : goal.returns
returns c =
    let a = c.args in
    let h = c.loop-i in
    let e : h.i ≡ a.count = omega arith in
    rw e at (put_end a.lits.now a.row a.at _ _ _ h.i (omega arith) h.invariant.1)
