-- What the inner functions that write a line's list cite: the inputs and outputs of one bit of a run, as the code gathers them.
use Rattle.std.specs.Prelude.{ℕ, zero, suc, ◌+◌, ◌/◌, ◌≤◌, ◌<◌, ◌^◌, ◌≡◌, Bool, false, ◌&&◌, cond, List, ltb, length, take, ℤ}
use Rattle.words.specs.Words.{bit}
use Rattle.trail.specs.Kinds.{kind_of}
use Rattle.cnf.specs.Gates.{Input, literals, values_in}
use Rattle.gate_writer.specs.Tables.{Small}
use Rattle.clause_lists.specs.Kinds.{parity, Carries, gates, has_carries, other_inputs, carry_inputs}
use Rattle.clause_lists.specs.Kinds.Carries.{none, made}
use Rattle.clause_lists.specs.Lists.{inputs}
use Rattle.run_literals.specs.declared.LineRun.{LineRun}
use Rattle.run_literals.specs.Run.{word_in, carry_in}
use Rattle.bit_gates.specs.declared.inputs.Inputs.{Inputs}

-- ---- the inputs of bit i beside the first operand's bit, the carry's, and all of them

abbrev pub others_in : LineRun → ℕ → List Input
others_in r i = other_inputs (kind_of r.line.kind) r.line (word_in r) i

abbrev pub carries_in : LineRun → ℕ → List Input
carries_in r i = carry_inputs (gates (kind_of r.line.kind)).carries (carry_in r) i

abbrev pub inputs_in : LineRun → ℕ → List Input
inputs_in r i = inputs r.width r.word r.line (word_in r) (carry_in r) i

-- ---- the outputs of bit i: output 0 is the result, and output 1 the carry into the next bit; none goes out of the highest bit

abbrev pub outputs_of : LineRun → ℕ → ℕ
outputs_of r i = cond (ltb (i + 1) r.width && has_carries (kind_of r.line.kind)) 2 1

-- what makes them of the inputs; without carries there is no output 1, written 0
abbrev pub function_as : Carries → ℕ → List Bool → Bool
function_as cs zero = parity
function_as none (suc j) = λ bs. false
function_as (made next value) (suc j) = next

abbrev pub function_of : LineRun → ℕ → List Bool → Bool
function_of r j = function_as (gates (kind_of r.line.kind)).carries j

abbrev pub output_in : LineRun → ℕ → ℕ → ℤ
output_in r i zero = word_in r r.word i
output_in r i (suc j) = carry_in r (i + 1)

-- ---- how they are held

-- the literals in an array
abbrev pub gathered : Inputs → List ℤ
gathered g = take g.count g.lits

-- it holds just these, at most so many, and each can be negated
pub record Gathers (most : ℕ) (ls : List ℤ) (g : Inputs) : Type 0 where
  pub count_most : g.count ≤ most
  pub length_is : length g.lits ≡ 4
  pub are : gathered g ≡ ls
  pub small : Small ls

-- a table has the values of f at every row
abbrev pub IsTable : (List Bool → Bool) → List Input → ℕ → Type 0
IsTable f is table = (row : ℕ) → row < 2 ^ (length (literals is) + 1) → f (values_in is row) ≡ bit table (row / 2)
