-- The output behind the inputs is what the gate is written of.
use native.Mathlib.Omega.{arith}
use Prim.Native.Nat.{◌+◌, ◌≤◌}
use mathlib.Core.Path.{sym, ap, subst, ◌∙◌}
use mathlib.Core.List.{List, [], ◌∷◌, ◌++◌}
use lib.IntN.{ℤ}
use lib.ListN.{length, length-append}
use lib.Seq.{length-take-le}
use Rattle.buffers.specs.Overwrite.{Wrote}
use Rattle.cnf.specs.Formulas.{numbers}
use Rattle.gate_writer.specs.Tables.{table_gate, Small}
use Rattle.gate_writer.proofs.Signs.{same}
use Rattle.bit_gates.specs.Gates.{gathered}
use Rattle.clause_writer.proofs.bits.put_output.Goals as goal

pub slice_bounds-put_gate-end : goal.slice_bounds-put_gate-end
slice_bounds-put_gate-end c =
    let all = c.with-all in
    sym (length-take-le all.result.count all.result.lits (omega arith))

pub put_gate-requires : goal.put_gate-requires
put_gate-requires c =
    let a = c.args in
    let all = c.with-all in
    let long = length-take-le all.result.count all.result.lits (omega arith) in
    let lits = all.ensures.are in
    let own = lits ∙ ap (λ (z : ℤ). gathered a.inputs ++ (z ∷ [])) (same a.output c.requires.1) in (
      omega (arith, ap length own ∙ length-append (gathered a.inputs) (a.output ∷ [])),
      omega (arith, long),
      subst Small (sym lits) all.ensures.small,
      subst (λ (ls : List ℤ). a.at + length (numbers (table_gate ls a.table)) ≤ length a.out.now) (sym own) c.requires.2,
    )

pub returns : goal.returns
returns c =
    let a = c.args in
    let put = c.put_gate in
    let lits = c.with-all.ensures.are in
    subst (λ (ls : List ℤ). Wrote a.at (numbers (table_gate ls a.table)) a.out.now put.result put.new.out)
    (lits ∙ ap (λ (z : ℤ). gathered a.inputs ++ (z ∷ [])) (same a.output c.requires.1)) put.ensures
