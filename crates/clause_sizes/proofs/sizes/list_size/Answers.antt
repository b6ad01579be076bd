-- The size by whether the kind has a second operand and whether it has carries: one law for all four.
use Prim.Native.Nat.{ℕ}
use mathlib.Core.Path.{◌≡◌, sym, ◌∙◌}
use mathlib.Core.Bool.{Bool, true, false}
use native.Mathlib.Omega.{arith}
use Rattle.trail.specs.declared.Line.{Line}
use Rattle.trail.specs.Kinds.{kind_of, uses_second}
use Rattle.clause_lists.specs.Kinds.{has_carries}
use Rattle.clause_lists.specs.Sizes.{filled_bits, gates_as, gate_counts, size_of, clauses_of_gate, numbers_of_gate}
use Rattle.clause_sizes.specs.declared.sizes.ListSize.{ListSize}
use Rattle.clause_sizes.proofs.sizes.list_size.Goals as goal

-- the size of a line whose kind is known to have these two or not
sized : (n : ℕ) (l : Line) (second carries : Bool) {s t : Bool} (r : ListSize) → s ≡ uses_second (kind_of l.kind) → s ≡ second
    → t ≡ has_carries (kind_of l.kind) → t ≡ carries
    → (r.clauses ≡ size_of clauses_of_gate (gates_as second carries n (filled_bits n l))) × (r.numbers ≡ size_of numbers_of_gate (gates_as second carries n (filled_bits n l)))
    → (r.clauses ≡ size_of clauses_of_gate (gate_counts n l)) × (r.numbers ≡ size_of numbers_of_gate (gate_counts n l))
sized n l second carries r a b c d e =
    let uses : uses_second (kind_of l.kind) ≡ second = sym a ∙ b in
    let has : has_carries (kind_of l.kind) ≡ carries = sym c ∙ d in
    rw (uses, has) e

pub returns-then-has_carries : goal.returns-then-has_carries
returns-then-has_carries c =
    let a = c.args in
    sized a.n a.line true true c.of_gates.result c.uses_second.ensures c.if-uses_second.true
    c.has_carries.ensures c.if-has_carries.true (omega (arith, c.of_gates.ensures.0), omega (arith, c.of_gates.ensures.1))

pub returns-then-uses_second : goal.returns-then-uses_second
returns-then-uses_second c =
    let a = c.args in
    sized a.n a.line true false c.of_gates-then-uses_second.result c.uses_second.ensures c.if-uses_second.true
    c.has_carries.ensures c.if-has_carries.false (omega (arith, c.of_gates-then-uses_second.ensures.0), omega (arith, c.of_gates-then-uses_second.ensures.1))

pub returns-then-has_carries-2 : goal.returns-then-has_carries-2
returns-then-has_carries-2 c =
    let a = c.args in
    sized a.n a.line false true c.of_gates-then-has_carries-2.result c.uses_second.ensures c.if-uses_second.false
    c.has_carries-2.ensures c.if-has_carries-2.true (omega (arith, c.of_gates-then-has_carries-2.ensures.0), omega (arith, c.of_gates-then-has_carries-2.ensures.1))

pub filled_bits-filled-requires : goal.filled_bits-filled-requires
filled_bits-filled-requires c = c.requires.2

pub returns : goal.returns
returns c =
    let a = c.args in
    let filled = c.filled_bits-filled.ensures.0 in
    sized a.n a.line false false c.of_gates-2.result c.uses_second.ensures c.if-uses_second.false
    c.has_carries-2.ensures c.if-has_carries-2.false
    (rw (← filled) (omega (arith, c.of_gates-2.ensures.0), omega (arith, c.of_gates-2.ensures.1)))
