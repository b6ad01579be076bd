-- How many gates a line's list has, by the literals among their inputs: what the code that measures a list before it writes it
-- cites. That the lists have these sizes is a law.
use Rattle.std.specs.Prelude.{ℕ, ◌+◌, ◌-◌, ◌*◌, ◌^◌, Bool, true, false}
use Rattle.words.specs.Below.{count}
use Rattle.trail.specs.declared.Line.{Line}
use Rattle.trail.specs.Kinds.{kind_of, uses_second}
use Rattle.clause_lists.specs.Kinds.{gates, has_carries, is_filled}

pub record GateCounts : Type 0 where
  pub none : ℕ
  pub one : ℕ
  pub two : ℕ
  pub three : ℕ

-- in how many bits of a line of width n a zero is filled in (document 02, W-201)
unfoldable pub filled_bits : ℕ → Line → ℕ
filled_bits n l = count n (λ i. is_filled ((gates (kind_of l.kind)).taken n l.amount i))

-- Of both runs, with or without a second operand, then with or without carries: without carries a gate for each bit, which has no
-- literal among its inputs where a zero is filled in for the first operand; with carries two in bit 0, which no carry enters, and
-- two in each bit above but for the last, which has one. A zero is filled in for no kind with a second operand or with carries.
abbrev pub gates_as : Bool → Bool → ℕ → ℕ → GateCounts
gates_as false false n filled = record { none = 2 * filled; one = 2 * (n - filled); two = 0; three = 0 }
gates_as true false n filled = record { none = 0; one = 0; two = 2 * n; three = 0 }
gates_as false true n filled = record { none = 0; one = 4; two = 4 * n - 6; three = 0 }
gates_as true true n filled = record { none = 0; one = 0; two = 4; three = 4 * n - 6 }

abbrev pub gate_counts : ℕ → Line → GateCounts
gate_counts n l = gates_as (uses_second (kind_of l.kind)) (has_carries (kind_of l.kind)) n (filled_bits n l)

-- the size of all gates, `ofGate c` being that of a gate with c literals among its inputs
abbrev pub size_of : (ℕ → ℕ) → GateCounts → ℕ
size_of ofGate g = ofGate 0 * g.none + ofGate 1 * g.one + ofGate 2 * g.two + ofGate 3 * g.three

-- such a gate has 2 ^ c clauses, each of c + 1 literals and a 0
abbrev pub clauses_of_gate : ℕ → ℕ
clauses_of_gate c = 2 ^ c

abbrev pub numbers_of_gate : ℕ → ℕ
numbers_of_gate c = (c + 2) * 2 ^ c
