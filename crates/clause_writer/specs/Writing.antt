-- What the inner functions that write a line's list cite: the clauses of one run, bit by bit and output by output.
use Rattle.std.specs.Prelude.{ℕ, List, [], ◌∷◌, ◌++◌, ℤ}
use Rattle.cnf.specs.Formulas.{numbers}
use Rattle.cnf.specs.Gates.{gate}
use Rattle.gate_writer.specs.Tables.{table_gate}
use Rattle.clause_lists.specs.Lists.{bit_clauses, run_clauses}
use Rattle.run_literals.specs.declared.LineRun.{LineRun}
use Rattle.run_literals.specs.Run.{word_in, carry_in}
use Rattle.bit_gates.specs.declared.inputs.Inputs.{Inputs}
use Rattle.bit_gates.specs.Gates.{inputs_in, function_of, output_in, gathered}

-- ---- the clauses of an output, those of bit i and those of all bits

abbrev pub clauses_of_output : LineRun → ℕ → ℕ → List (List ℤ)
clauses_of_output r i j = gate (function_of r j) (inputs_in r i) (output_in r i j)

abbrev pub clauses_of_bit : LineRun → ℕ → List (List ℤ)
clauses_of_bit r i = bit_clauses r.width r.word r.line (word_in r) (carry_in r) i

abbrev pub clauses_of_run : LineRun → List (List ℤ)
clauses_of_run r = run_clauses r.width r.word r.line (word_in r) (carry_in r)

-- the numbers of the gate that ties an output to them by a table
abbrev pub tied_by : Inputs → ℤ → ℕ → List ℤ
tied_by g output table = numbers (table_gate (gathered g ++ (output ∷ [])) table)
