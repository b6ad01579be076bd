-- Demand 3, for every accepted sheet.
use Rattle.std.specs.Prelude.{ℕ, ◌≤◌, ◌<◌, ◌≡◌, Bool, true, false, List, length, ℤ}
use Rattle.words.specs.Below.{concat}
use Rattle.trail.specs.Trail.{Trail, line_count}
use Rattle.trail.specs.Runs.{is_start, follows}
use Rattle.cnf.specs.Formulas.{variable, clauses_of, satisfies}
use Rattle.clause_lists.specs.Lists.{line_list, clause_count}
use Rattle.clause_lists.specs.Limits.{WithinLimits}
use Rattle.clause_lists.specs.Pairing.{IsAssignment, SatisfiedExactly, MapsInverse, EquallyMany, NamesVariables, NamesLast, EndsInZero}
use Rattle.sheet.specs.Fields.{trail_of}
use Rattle.sheet.specs.Questions.{IsAccepted}
use Rattle.answers.specs.Calls.{written}
use Rattle.trail_reports.specs.Lines.{line_report}
use Rattle.clauses.specs.Answers.{list_call}

-- The joined list is what the call for one line's list, lent a buffer long enough for each answer, writes for lines 0 to L - 1, in
-- that order, from the one sheet: `buffers k` is the buffer that was lent for line k.
unfoldable pub joined_list : List ℕ → (ℕ → List ℤ) → List ℤ
joined_list s buffers = concat (line_count (trail_of s)) (λ k. written (list_call s k (buffers k)))

abbrev pub LongEnough : List ℕ → (ℕ → List ℤ) → Type 0
LongEnough s buffers = (k : ℕ) → k < line_count (trail_of s) → length (line_list (trail_of s) k) ≤ length (buffers k)

-- there are none of either: no satisfying assignment, and no starting value that follows
pub record NoneOfEither (t : Trail) (list : List ℤ) : Type 0 where
  pub no_assignment : (a : List Bool) → IsAssignment t a → satisfies (variable a) list ≡ false
  pub no_start : (x : List ℕ) → is_start t x ≡ true → follows t x ≡ false

pub record Pairs (s : List ℕ) (buffers : ℕ → List ℤ) : Type 0 where
  -- 1. for every assignment: it satisfies all clauses exactly when its first variables spell a starting value that follows and
  -- every other variable has the value that the two runs from there give it
  pub satisfied_exactly : SatisfiedExactly (trail_of s) (joined_list s buffers)
  -- 2. the maps from starting values to assignments and back are inverse to each other on those sets
  pub maps_inverse : MapsInverse (trail_of s) (joined_list s buffers)
  -- 3. equally many
  pub equally_many : EquallyMany (trail_of s) (joined_list s buffers)
  -- 4. if any line is reported impossible, there are none of either
  pub none_if_impossible : (k : ℕ) → k < line_count (trail_of s) → (line_report (trail_of s) k).number ≡ 0
      → NoneOfEither (trail_of s) (joined_list s buffers)
  -- 5. every number other than 0 names a variable of the sheet, and each line's list ends in 0
  pub names_variables : NamesVariables (trail_of s) (joined_list s buffers)
  pub ends_in_zero : (k : ℕ) → k < line_count (trail_of s) → EndsInZero (written (list_call s k (buffers k)))

abbrev pub EverySheetPairs : Type 0
EverySheetPairs = (s : List ℕ) → IsAccepted s → (buffers : ℕ → List ℤ) → LongEnough s buffers → Pairs s buffers

-- Both counts are the list's own: the clauses are as many as are read from it, and the variables' count is the largest variable in
-- it, which some number names and none passes (part 5). Document 01's limits are never passed.
pub record CountsRight (s : List ℕ) (buffers : ℕ → List ℤ) : Type 0 where
  pub clauses_written : length (clauses_of (joined_list s buffers)) ≡ clause_count (trail_of s)
  pub names_last : NamesLast (trail_of s) (joined_list s buffers)
  pub within_limits : WithinLimits 32 (trail_of s)

abbrev pub EverySheetCountsRight : Type 0
EverySheetCountsRight = (s : List ℕ) → IsAccepted s → (buffers : ℕ → List ℤ) → LongEnough s buffers → CountsRight s buffers
