-- A line's list in the buffer: the first run's numbers, and the second's behind them.
use Prim.Native.Nat.{ℕ, ◌+◌, ◌≤◌}
use native.Mathlib.Omega.{arith}
use mathlib.Core.Path.{◌≡◌, sym, ap, ap₂, ◌∙◌}
use mathlib.Core.List.{List, ◌++◌}
use lib.ListN.{length, length-append}
use lib.IntN.{ℤ}
use Rattle.buffers.specs.Overwrite.{Wrote}
use Rattle.buffers.proofs.Overwrite.{overwrite_length}
use Rattle.buffers.proofs.Appending.{wrote_append}
use Rattle.trail.specs.Trail.{Trail}
use Rattle.cnf.specs.Formulas.{numbers}
use Rattle.cnf.proofs.Clauses.{numbers_append}
use Rattle.clause_lists.specs.Variables.Run.{firstRun, secondRun}
use Rattle.clause_lists.specs.Lists.{clauses_in, line_clauses, line_list}

pub list_parts : (t : Trail) (k : ℕ) → line_list t k ≡ numbers (clauses_in t firstRun k) ++ numbers (clauses_in t secondRun k)
unfolding line_list line_clauses
list_parts t k = numbers_append (clauses_in t firstRun k) (clauses_in t secondRun k)

module _ (t : Trail) (k at : ℕ) (out : List ℤ) (room : at + length (line_list t k) ≤ length out) {c d : List (List ℤ)}
    (first : c ≡ clauses_in t firstRun k) (second : d ≡ clauses_in t secondRun k) where
  parts : line_list t k ≡ numbers c ++ numbers d
  parts = list_parts t k ∙ ap₂ (λ (p q : List (List ℤ)). numbers p ++ numbers q) (sym first) (sym second)

  lengths : length (numbers c) + length (numbers d) ≡ length (line_list t k)
  lengths = sym (ap length parts ∙ length-append (numbers c) (numbers d))

  pub room_first : at + length (numbers c) ≤ length out
  room_first = omega (arith, lengths)

  module _ {p : ℕ} {after : List ℤ} (wrote : Wrote at (numbers c) out p after) where
    pub room_second : p + length (numbers d) ≤ length after
    room_second = omega (arith, lengths, ap length wrote.now_is, overwrite_length at (numbers c) out room_first)

    pub list_written : {q : ℕ} {last : List ℤ} → Wrote p (numbers d) after q last → Wrote at (line_list t k) out q last
    list_written w = rw parts (wrote_append room_first wrote w)
