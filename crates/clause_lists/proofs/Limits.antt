-- No trail of a sheet's size passes the limits: kind 5 at the greatest width has the most clauses and the most numbers.
use mathlib.Core.Bool.{Bool, true, false}
use Prim.Native.Nat.{ℕ, ◌+◌, ◌-◌, ◌*◌, ◌≤◌, ◌<◌}
use native.Mathlib.Nat.{mul-le-mul, mul-le-mul_left}
use native.Mathlib.Omega.{arith}
use lib.ListN.{length}
use Rattle.words.specs.Below.{count}
use Rattle.words.proofs.Below.{count_le, total_same, total_le}
use Rattle.trail.specs.declared.Line.{Line}
use Rattle.trail.specs.Kinds.{kind_of, uses_second}
use Rattle.trail.specs.Trail.{Trail, input_count, line_count, line_at}
use Rattle.trail.specs.WellFormed.{WellFormed, most_lines, most_words, Sized}
use Rattle.clause_lists.specs.Kinds.{is_filled, gates, has_carries}
use Rattle.clause_lists.specs.Variables.{adds, variables_before, variables}
use Rattle.clause_lists.specs.Lists.{line_clauses, line_list, clause_count}
use Rattle.clause_lists.specs.Sizes.{filled_bits, gates_as, size_of, clauses_of_gate, numbers_of_gate}
use Rattle.clause_lists.specs.Limits.{most_variables, most_gates, most_clauses, most_numbers, WithinLimits}
use Rattle.clause_lists.proofs.Lengths.{line_clauses_length, line_list_length}

filled_most : (n : ℕ) (l : Line) → filled_bits n l ≤ n
unfolding filled_bits
filled_most n l = count_le n (λ i. is_filled ((gates (kind_of l.kind)).taken n l.amount i))

clauses_most : (second carries : Bool) (n w filled : ℕ) → 2 ≤ n → n ≤ w → filled ≤ n
    → size_of clauses_of_gate (gates_as second carries n filled) ≤ size_of clauses_of_gate (most_gates w)
clauses_most true true n w filled l h f = omega arith
clauses_most true false n w filled l h f = omega arith
clauses_most false true n w filled l h f = omega arith
clauses_most false false n w filled l h f = omega arith

numbers_most : (second carries : Bool) (n w filled : ℕ) → 2 ≤ n → n ≤ w → filled ≤ n
    → size_of numbers_of_gate (gates_as second carries n filled) ≤ most_numbers w
numbers_most true true n w filled l h f = omega arith
numbers_most true false n w filled l h f = omega arith
numbers_most false true n w filled l h f = omega arith
numbers_most false false n w filled l h f = omega arith

module _ (w : ℕ) {t : Trail} (small : Sized w t) where
  variables_most : variables t ≤ most_variables w
  unfolding variables variables_before
  variables_most =
      omega (
        arith,
        mul-le-mul small.width_most both,
        mul-le-mul {n₁ = 2 * (t.width - 1)} {n₂ = 2 * (w - 1)} (omega (arith, small.width_most)) additions,
      )
    where
      both : input_count t + line_count t ≤ most_words
      both = omega (arith, small.inputs_most, small.lines_most)

      additions : count (line_count t) (adds t) ≤ most_lines
      additions = omega (arith, count_le (line_count t) (adds t), small.lines_most)

  module _ (good : WellFormed t) where
    line_clauses_most : (k : ℕ) → k < line_count t → length (line_clauses t k) ≤ size_of clauses_of_gate (most_gates w)
    line_clauses_most k h =
        rw (line_clauses_length good k h)
        (clauses_most (uses_second (kind_of (line_at t k).kind)) (has_carries (kind_of (line_at t k).kind)) t.width w (filled_bits t.width (line_at t k))
        good.width_least small.width_most (filled_most t.width (line_at t k)))

    pub clauses_count_most : clause_count t ≤ most_clauses w
    unfolding clause_count
    clauses_count_most =
        let each = size_of clauses_of_gate (most_gates w) in
        omega (
          arith,
          total_le (line_count t) (λ k. length (line_clauses t k)) (λ k. each) line_clauses_most,
          total_same (line_count t) each,
          mul-le-mul_left each small.lines_most,
        )

    line_list_most : (k : ℕ) → k < line_count t → length (line_list t k) ≤ most_numbers w
    line_list_most k h =
        rw (line_list_length good k h)
        (numbers_most (uses_second (kind_of (line_at t k).kind)) (has_carries (kind_of (line_at t k).kind)) t.width w (filled_bits t.width (line_at t k))
        good.width_least small.width_most (filled_most t.width (line_at t k)))

    pub within_limits : WithinLimits w t
    within_limits = record {
      variables_most = variables_most;
      clauses_most = clauses_count_most;
      numbers_most = line_list_most;
    }
