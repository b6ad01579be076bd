-- Assignments of a trail's variables: the starting value that one spells, and the values that two runs give (document 01,
-- "Clauses"; document 02, W-201).
use Rattle.std.specs.Prelude.{ℕ, ◌+◌, ◌-◌, ◌*◌, ◌^◌, ◌<◌, ◌≤◌, ◌≡◌, Bool, true, false, cond, List, [], ◌++◌, ℤ}
use Rattle.words.specs.Words.{bit, from_bits}
use Rattle.words.specs.Below.{count, tabulate, concat}
use Rattle.trail.specs.declared.Line.{Line}
use Rattle.trail.specs.Kinds.{kind_of, uses_second}
use Rattle.trail.specs.Trail.{Trail, input_count, line_count, line_at}
use Rattle.trail.specs.Runs.{run_word, partner, follows}
use Rattle.cnf.specs.Formulas.{variable, satisfies}
use Rattle.clause_lists.specs.Kinds.{Carries, gates}
use Rattle.clause_lists.specs.Kinds.Carries.{none, made}
use Rattle.clause_lists.specs.Variables.{Run, bit_variable, carry_variable, adds, variables}
use Rattle.clause_lists.specs.Variables.Run.{firstRun, secondRun}

-- An assignment's first nm variables spell the starting value whose word j has as bit i the value of variable nj + i + 1.
unfoldable pub spelled : Trail → List Bool → List ℕ
spelled t a = tabulate (input_count t) (λ j. from_bits t.width (λ i. variable a (bit_variable t j i)))

-- where a run begins
abbrev pub start_of : Trail → Run → List ℕ → List ℕ
start_of t firstRun x = x
start_of t secondRun x = partner t x

-- the second summand of an addition, y being the second operand's word: a constant is one; of a subtraction the second word
abbrev pub second_summand : Line → ℕ → ℕ
second_summand l y = cond (uses_second (kind_of l.kind)) y l.constant

-- the value that a run with summands x and y gives the carry into bit i; without carries there is none, written 0
abbrev pub carried : Carries → ℕ → ℕ → ℕ → Bool
carried none x y i = false
carried (made next value) x y i = value x y i

-- The carry into bit i of line k in a run: 1 exactly when the low i bits of the two summands add up to 2 ^ i or more, else 0. A
-- borrow replaces it in a subtraction: 1 exactly when the first word's low i bits are less than the second's.
unfoldable pub carry_of : Trail → Run → List ℕ → ℕ → ℕ → Bool
carry_of t run x k i =
    carried (gates (kind_of (line_at t k).kind)).carries
    (run_word t (start_of t run x) (line_at t k).first)
    (second_summand (line_at t k) (run_word t (start_of t run x) (line_at t k).second))
    i

-- The two runs from x give every word variable its bit in the first run, and every carry variable its carry in its own run: the
-- assignment has these values.
pub record Given (t : Trail) (x : List ℕ) (a : List Bool) : Type 0 where
  pub words : (j : ℕ) → j < input_count t + line_count t → (i : ℕ) → i < t.width → variable a (bit_variable t j i) ≡ bit (run_word t x j) i
  pub carries : (run : Run) (k : ℕ) → k < line_count t → adds t k ≡ true → (i : ℕ) → 1 ≤ i → i < t.width
      → variable a (carry_variable t run k i) ≡ carry_of t run x k i

-- the same values as a list, variable by variable: the assignment that a starting value gives
unfoldable pub line_carries : Trail → List ℕ → ℕ → List Bool
line_carries t x k =
    cond (adds t k)
    (tabulate (t.width - 1) (λ i. carry_of t firstRun x k (i + 1)) ++ tabulate (t.width - 1) (λ i. carry_of t secondRun x k (i + 1)))
    []

unfoldable pub assignment_from : Trail → List ℕ → List Bool
assignment_from t x =
    concat (input_count t + line_count t) (λ j. tabulate t.width (bit (run_word t x j))) ++ concat (line_count t) (line_carries t x)

-- All assignments by number, from 0 to 2 ^ V - 1: number q gives variable k bit k - 1 of q.
unfoldable pub assignment_at : Trail → ℕ → List Bool
assignment_at t q = tabulate (variables t) (bit q)

-- All starting values by number, from 0 to 2 ^ (nm) - 1: word j of number q has as bit i bit nj + i of q.
unfoldable pub start_at : Trail → ℕ → List ℕ
start_at t q = tabulate (input_count t) (λ j. from_bits t.width (λ i. bit q (t.width * j + i)))

-- the number of satisfying assignments, counted over all assignments
unfoldable pub satisfying_count : Trail → List ℤ → ℕ
satisfying_count t list = count (2 ^ variables t) (λ q. satisfies (variable (assignment_at t q)) list)

-- the number of starting values that follow, counted over all
unfoldable pub following_count : Trail → ℕ
following_count t = count (2 ^ (t.width * input_count t)) (λ q. follows t (start_at t q))
