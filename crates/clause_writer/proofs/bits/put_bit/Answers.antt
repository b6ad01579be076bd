use native.Mathlib.Omega.{arith}
use Prim.Native.Nat.{ℕ, ◌+◌, ◌≤◌}
use mathlib.Core.Path.{◌≡◌, sym, ap, subst, ◌∙◌}
use mathlib.Core.List.{List}
use lib.IntN.{ℤ}
use lib.ListN.{length}
use Rattle.words.specs.Below.{concat}
use Rattle.buffers.specs.Overwrite.{Wrote}
use Rattle.cnf.specs.Formulas.{numbers}
use Rattle.gate_writer.proofs.Writing.{rows_start, row_fits, rows_next}
use Rattle.run_literals.specs.declared.LineRun.{LineRun}
use Rattle.bit_gates.specs.Gates.{outputs_of}
use Rattle.clause_writer.specs.Writing.{clauses_of_output, clauses_of_bit}
use Rattle.run_literals.proofs.RunLiterals.{made_held}
use Rattle.bit_gates.proofs.Gathering.{gathers_as}
use Rattle.clause_writer.proofs.WrittenBits.{bit_outputs, output_tied}
use Rattle.clause_writer.proofs.bits.put_bit.Goals as goal

-- room for the bit is room for its outputs
room : (r : LineRun) (i at : ℕ) (out : List ℤ) → at + length (numbers (clauses_of_bit r i)) ≤ length out
    → at + length (numbers (concat (outputs_of r i) (clauses_of_output r i))) ≤ length out
room r i at out h = subst (λ (cs : List (List ℤ)). at + length (numbers cs) ≤ length out) (bit_outputs r i) h

pub loop-j-init : goal.loop-j-init
loop-j-init c =
    let a = c.args in
    rows_start (clauses_of_output a.run a.i) (outputs_of a.run a.i) a.at a.out.now (room a.run a.i a.at a.out.now c.requires.1)

pub output_table-table-requires : goal.output_table-table-requires
output_table-table-requires c =
    (c.requires.0, omega (arith, c.output_count-outputs.ensures))

pub put_output-next-requires : goal.put_output-next-requires
put_output-next-requires c =
    let a = c.args in
    let there = c.gather-inputs.ensures in
    let count = c.output_count-outputs.ensures in
    let h = c.loop-j in
    let output = made_held c.output_literal-output.ensures in
    let table = c.output_table-table in
    let tied = output_tied a.run a.i there h.j table.result table.ensures output.0 in (
      gathers_as (omega arith) (sym there.are) there,
      output.1,
      subst (λ (ns : List ℤ). h.next + length ns ≤ length h.out) (sym tied)
          (row_fits (clauses_of_output a.run a.i) (outputs_of a.run a.i) a.at a.out.now
          (room a.run a.i a.at a.out.now c.requires.1) h.j h.next h.out (omega (arith, count)) h.invariant h.auto.out),
    )

pub loop-j-preserved : goal.loop-j-preserved
loop-j-preserved c =
    let a = c.args in
    let there = c.gather-inputs.ensures in
    let count = c.output_count-outputs.ensures in
    let h = c.loop-j in
    let output = made_held c.output_literal-output.ensures in
    let table = c.output_table-table in
    let put = c.put_output-next in
    let tied = output_tied a.run a.i there h.j table.result table.ensures output.0 in
    let wrote = subst (λ (ns : List ℤ). Wrote h.next ns h.out put.result put.new.out) tied put.ensures in
    rows_next (clauses_of_output a.run a.i) (outputs_of a.run a.i) a.at a.out.now
    (room a.run a.i a.at a.out.now c.requires.1) h.j h.next _ h.out _ (omega (arith, count)) h.invariant wrote

pub returns : goal.returns
returns c =
    let a = c.args in
    let h = c.loop-j in
    let all : h.j ≡ outputs_of a.run a.i = omega (arith, c.output_count-outputs.ensures) in
    let own : concat h.j (clauses_of_output a.run a.i) ≡ clauses_of_bit a.run a.i =
    ap (λ (n : ℕ). concat n (clauses_of_output a.run a.i)) all ∙ sym (bit_outputs a.run a.i) in
    rw own at h.invariant
