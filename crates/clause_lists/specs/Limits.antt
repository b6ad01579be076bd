-- How many variables, clauses and numbers there are at most (document 01, "Clauses"), by the greatest width: no trail of a sheet's
-- size passes these limits, and one meets them.
use Rattle.std.specs.Prelude.{ℕ, ◌+◌, ◌-◌, ◌*◌, ◌≤◌, ◌<◌, ◌≡◌, true, length, replicate}
use Rattle.trail.specs.declared.Line.{Line}
use Rattle.trail.specs.Trail.{Trail, line_count}
use Rattle.trail.specs.WellFormed.{WellFormed, most_inputs, most_lines, most_words, Sized}
use Rattle.clause_lists.specs.Variables.{variables}
use Rattle.clause_lists.specs.Lists.{line_list, clause_count}
use Rattle.clause_lists.specs.Sizes.{GateCounts, gates_as, size_of, clauses_of_gate, numbers_of_gate}

-- A sheet has n(m + L) variables and 2(n - 1) more for each addition line: here w is n, and every line is one.
abbrev pub most_variables : ℕ → ℕ
most_variables w = w * most_words + 2 * (w - 1) * most_lines

-- the gates of a line of kind 5, which has a second operand and carries: 4 with two literals, and 4w - 6 with three
abbrev pub most_gates : ℕ → GateCounts
most_gates w = gates_as true true w 0

abbrev pub most_clauses : ℕ → ℕ
most_clauses w = size_of clauses_of_gate (most_gates w) * most_lines

-- of one line's list
abbrev pub most_numbers : ℕ → ℕ
most_numbers w = size_of numbers_of_gate (most_gates w)

pub record WithinLimits (w : ℕ) (t : Trail) : Type 0 where
  pub variables_most : variables t ≤ most_variables w
  pub clauses_most : clause_count t ≤ most_clauses w
  pub numbers_most : (k : ℕ) → k < line_count t → length (line_list t k) ≤ most_numbers w

pub record MeetsLimits (w : ℕ) (t : Trail) : Type 0 where
  pub well_formed : WellFormed t
  pub sized : Sized w t
  pub variables_met : variables t ≡ most_variables w
  pub clauses_met : clause_count t ≡ most_clauses w
  pub numbers_met : (k : ℕ) → k < line_count t → length (line_list t k) ≡ most_numbers w

-- The largest trail: eight words of w bits, and 248 lines of kind 5, each of which adds words 0 and 1; no difference anywhere.
abbrev pub addition : Line
addition = record { kind = 5; amount = 0; first = 0; second = 1; constant = 0; difference = 0 }

unfoldable pub largest : ℕ → Trail
largest w = record { width = w; inputs = replicate most_inputs 0; lines = replicate most_lines addition }

-- the limits are never passed, and met; at the width of a sheet's words they are document 01's numbers
pub record LimitsRight : Type 0 where
  pub never_passed : (w : ℕ) (t : Trail) → WellFormed t → Sized w t → WithinLimits w t
  pub met : (w : ℕ) → 2 ≤ w → MeetsLimits w (largest w)
  -- At most 23,568 variables, 246,016 clauses.
  pub variables_32 : most_variables 32 ≡ 23568
  pub clauses_32 : most_clauses 32 ≡ 246016
  -- One line's list as signed 32-bit numbers, no header, at most 4,944 of them.
  pub numbers_32 : most_numbers 32 ≡ 4944
