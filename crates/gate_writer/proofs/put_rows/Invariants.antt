-- The invariant: the clauses of the inputs' rows passed are written.
use mathlib.Core.Path.{◌≡◌}
use Prim.Native.Nat.{◌-◌, ◌^◌, ◌≤◌}
use Rattle.words.specs.Below.{concat}
use Rattle.buffers.specs.Overwrite.{Wrote}
use Rattle.cnf.specs.Formulas.{numbers}
use Rattle.gate_writer.proofs.Tables.{wrong_clause}
use Rattle.gate_writer.proofs.put_rows.Given as goal

abbrev pub invariant-loop-inputs : goal.invariant-loop-inputs
invariant-loop-inputs l =
    (l.rows ≡ 2 ^ (l.count - 1)) × (l.rows ≤ 8) × Wrote l.at (numbers (concat l.inputs (wrong_clause l.lits l.table))) l.initial.out l.next l.out
