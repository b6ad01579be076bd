use native.Mathlib.Omega.{arith}
use mathlib.Core.Path.{◌≡◌, ap, ◌∙◌, subst}
use mathlib.Core.List.{List, [], ◌∷◌}
use Prim.Native.Nat.{ℕ, ◌+◌, ◌-◌, ◌^◌, ◌≤◌}
use lib.ListN.{length}
use lib.IntN.{ℤ}
use Rattle.words.specs.Below.{concat}
use Rattle.buffers.specs.Overwrite.{Wrote}
use Rattle.cnf.specs.Formulas.{numbers}
use Rattle.cnf.specs.Gates.{clause_of}
use Rattle.gate_writer.specs.Tables.{table_gate}
use Rattle.gate_writer.proofs.Tables.{wrong_clause, table_pairs}
use Rattle.gate_writer.proofs.Writing.{rows_start, row_fits, rows_next, rows_le, rows_are}
use Rattle.gate_writer.proofs.put_rows.Goals as goal

module _ (lits : List ℤ) (count table : ℕ) (e : length lits ≡ count) (some : 1 ≤ count) where
  -- the gate is the clauses of the inputs' rows
  pairs : table_gate lits table ≡ concat (2 ^ (count - 1)) (wrong_clause lits table)
  pairs = table_pairs lits table (omega arith) ∙ ap (λ (n : ℕ). concat (2 ^ (n - 1)) (wrong_clause lits table)) e

  -- room for it is room for them
  room : (at : ℕ) (out : List ℤ) → at + length (numbers (table_gate lits table)) ≤ length out
      → at + length (numbers (concat (2 ^ (count - 1)) (wrong_clause lits table))) ≤ length out
  room at out h = rw pairs at h

pub loop-inputs-init : goal.loop-inputs-init
loop-inputs-init c =
    let a = c.args in
    let e = rows_are (a.count - 1) (omega arith) in (
      e,
      omega (arith, e, rows_le (a.count - 1) (omega arith)),
      rows_start (wrong_clause a.lits.now a.table) (2 ^ (a.count - 1)) a.at a.out.now
          (room a.lits.now a.count a.table c.requires.0 c.requires.1 a.at a.out.now c.requires.4),
    )

pub put_clause-next-requires : goal.put_clause-next-requires
put_clause-next-requires c =
    let a = c.args in
    let h = c.loop-inputs in (
      c.requires.0,
      c.requires.2,
      c.requires.3,
      rw c.wrong_row.ensures
          (row_fits (wrong_clause a.lits.now a.table) (2 ^ (a.count - 1)) a.at a.out.now
          (room a.lits.now a.count a.table c.requires.0 c.requires.1 a.at a.out.now c.requires.4)
          h.inputs h.next h.out (omega arith) h.invariant.2 h.auto.out),
    )

pub loop-inputs-preserved : goal.loop-inputs-preserved
loop-inputs-preserved c =
    let a = c.args in
    let h = c.loop-inputs in
    let put = c.put_clause-next in
    let wrote =
    subst (λ (row : ℕ). Wrote h.next (numbers (clause_of a.lits.now row ∷ [])) h.out put.result put.new.out)
    c.wrong_row.ensures put.ensures in (
      h.invariant.0,
      h.invariant.1,
      rows_next (wrong_clause a.lits.now a.table) (2 ^ (a.count - 1)) a.at a.out.now
          (room a.lits.now a.count a.table c.requires.0 c.requires.1 a.at a.out.now c.requires.4)
          h.inputs h.next _ h.out _ (omega arith) h.invariant.2 wrote,
    )

pub returns : goal.returns
returns c =
    let a = c.args in
    let h = c.loop-inputs in
    let e : h.inputs ≡ 2 ^ (a.count - 1) = omega arith in
    rw (pairs a.lits.now a.count a.table c.requires.0 c.requires.1) (rw e at h.invariant.2)
