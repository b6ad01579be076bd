-- What the code writes for a bit: for one output after the other, the gate of the table that it looked up.
use Prim.Native.Nat.{ℕ, ◌+◌}
use mathlib.Core.Path.{◌≡◌, refl, sym, ap, ◌∙◌}
use mathlib.Core.Bool.{Bool, true, false, ◌&&◌, cond}
use mathlib.Core.List.{List, [], ◌∷◌, ◌++◌, append-nil}
use lib.Dec.{ltb}
use lib.IntN.{ℤ}
use Rattle.words.specs.Below.{concat}
use Rattle.trail.specs.Kinds.{kind_of}
use Rattle.cnf.specs.Formulas.{numbers}
use Rattle.cnf.specs.Gates.{literals, gate}
use Rattle.gate_writer.specs.Tables.{table_gate}
use Rattle.gate_writer.proofs.Tables.{table_gate_lem}
use Rattle.clause_lists.specs.Kinds.{Carries, some_carries, gates}
use Rattle.clause_lists.specs.Kinds.Carries.{none, made}
use Rattle.clause_lists.specs.Lists.{next_clauses, bit_clauses}
use Rattle.run_literals.specs.declared.LineRun.{LineRun}
use Rattle.bit_gates.specs.declared.inputs.Inputs.{Inputs}
use Rattle.run_literals.specs.Run.{word_in, carry_in}
use Rattle.bit_gates.specs.Gates.{inputs_in, outputs_of, function_as, function_of, output_in, Gathers, IsTable}
use Rattle.clause_writer.specs.Writing.{clauses_of_output, clauses_of_bit, tied_by}

module _ (r : LineRun) (i : ℕ) where
  -- ---- the clauses of a bit are those of its outputs

  abbrev next : Carries → List (List ℤ)
  next cs = next_clauses r.width r.word r.line (word_in r) (carry_in r) cs i

  abbrev outputs : Carries → ℕ → List (List ℤ)
  outputs cs j = gate (function_as cs j) (inputs_in r i) (output_in r i j)

  pub bit_outputs : clauses_of_bit r i ≡ concat (outputs_of r i) (clauses_of_output r i)
  unfolding bit_clauses concat
  bit_outputs = at (ltb (i + 1) r.width) (gates (kind_of r.line.kind)).carries
    where
      at : (b : Bool) (cs : Carries) → outputs cs 0 ++ cond b (next cs) [] ≡ concat (cond (b && some_carries cs) 2 1) (outputs cs)
      at true none = append-nil (outputs none 0)
      at true (made f value) = refl
      at false cs = append-nil (outputs cs 0)

  -- ---- the gate of a table

  pub output_tied : {g : Inputs} {m : ℕ} → Gathers m (literals (inputs_in r i)) g → (j table : ℕ) {output : ℤ}
      → IsTable (function_of r j) (inputs_in r i) table → output ≡ output_in r i j → tied_by g output table ≡ numbers (clauses_of_output r i j)
  output_tied there j table {output} is e =
      ap (λ (ls : List ℤ). numbers (table_gate (ls ++ (output ∷ [])) table)) there.are
      ∙ ap numbers (sym (table_gate_lem (function_of r j) (inputs_in r i) output table is) ∙ ap (gate (function_of r j) (inputs_in r i)) e)
