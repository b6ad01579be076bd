-- A line's list of clauses (document 01, "Clauses").
use Rattle.std.specs.Prelude.{ℕ, ◌+◌, cond, List, [], ◌++◌, ltb, length, ℤ}
use Rattle.words.specs.Below.{concat, total}
use Rattle.trail.specs.declared.Line.{Line}
use Rattle.trail.specs.Kinds.{kind_of}
use Rattle.trail.specs.Trail.{Trail, input_count, line_count, line_at}
use Rattle.cnf.specs.Formulas.{numbers}
use Rattle.cnf.specs.Gates.{Input, gate}
use Rattle.clause_lists.specs.Kinds.{Carries, gates, inputs_as, parity}
use Rattle.clause_lists.specs.Kinds.Carries.{none, made}
use Rattle.clause_lists.specs.Variables.{Run, bit_literal, carry_literal}
use Rattle.clause_lists.specs.Variables.Run.{firstRun, secondRun}

-- One run of a line of width n that makes word j, `word` and `carry` being the run's literals.
module _ (n j : ℕ) (l : Line) (word : ℕ → ℕ → ℤ) (carry : ℕ → ℤ) where
  abbrev pub inputs : ℕ → List Input
  inputs i = inputs_as (kind_of l.kind) n l word carry i

  -- the next carry of bit i, out of the kind's carries
  abbrev pub next_clauses : Carries → ℕ → List (List ℤ)
  next_clauses none i = []
  next_clauses (made next value) i = gate next (inputs i) (carry (i + 1))

  -- a bit: result before next carry (none out of bit n - 1)
  unfoldable pub bit_clauses : ℕ → List (List ℤ)
  bit_clauses i =
      gate parity (inputs i) (word j i)
      ++ cond (ltb (i + 1) n) (next_clauses (gates (kind_of l.kind)).carries i) []

  -- bits upward
  unfoldable pub run_clauses : List (List ℤ)
  run_clauses = concat n bit_clauses

-- a run of line k, which makes word m + k
unfoldable pub clauses_in : Trail → Run → ℕ → List (List ℤ)
clauses_in t run k = run_clauses t.width (input_count t + k) (line_at t k) (bit_literal t run) (carry_literal t run k)

-- A line lists the first run, then the second run.
unfoldable pub line_clauses : Trail → ℕ → List (List ℤ)
line_clauses t k = clauses_in t firstRun k ++ clauses_in t secondRun k

-- A literal list is followed by 0.
unfoldable pub line_list : Trail → ℕ → List ℤ
line_list t k = numbers (line_clauses t k)

-- how many clauses all lines have
unfoldable pub clause_count : Trail → ℕ
clause_count t = total (line_count t) (λ k. length (line_clauses t k))

-- all lines' lists, one after the other
unfoldable pub joined : Trail → List ℤ
joined t = concat (line_count t) (line_list t)
