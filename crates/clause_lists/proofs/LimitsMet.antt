-- The limits are right: never passed, and met by the largest trail, whose lines are all the same; at 32 they compute to document 01's.
use mathlib.Core.Path.{◌≡◌, refl, ap, ◌∙◌}
use mathlib.Core.Bool.{true, true≢false, false≢true}
use Prim.Native.Nat.{ℕ, ◌+◌, ◌-◌, ◌*◌, ◌≤◌, ◌<◌}
use native.Mathlib.Omega.{arith}
use lib.ListN.{length, get_or-replicate}
use lib.Pow.{pow_pos}
use Rattle.words.proofs.Below.{count_all, total_cong, total_same}
use Rattle.trail.specs.declared.Line.{Line}
use Rattle.trail.specs.Kinds.{kind_of}
use Rattle.trail.specs.Trail.{line_count, no_line, line_at}
use Rattle.trail.specs.WellFormed.{WellFormedLine, WellFormed, most_inputs, most_lines, most_words, Sized}
use Rattle.clause_lists.specs.Kinds.{has_carries}
use Rattle.clause_lists.specs.Variables.{adds, variables_before, variables}
use Rattle.clause_lists.specs.Lists.{line_clauses, line_list, clause_count}
use Rattle.clause_lists.specs.Sizes.{gate_counts, size_of, clauses_of_gate, numbers_of_gate}
use Rattle.clause_lists.specs.Limits.{most_variables, most_gates, most_clauses, most_numbers, addition, largest, MeetsLimits, LimitsRight}
use Rattle.clause_lists.proofs.Lengths.{line_clauses_length, line_list_length}
use Rattle.clause_lists.proofs.Limits.{within_limits}

addition_right : (w j : ℕ) → 2 ≤ j → WellFormedLine w j addition
unfolding kind_of
addition_right w j h = record {
  kind_known = λ e. let z : ◌≡◌ {A = ℕ} 0 1 = cc in omega arith;
  first_earlier = omega arith;
  second_earlier = λ e. omega arith;
  operands_differ = λ e. omega arith;
  amount_least = λ e. absurd (false≢true e);
  amount_most = λ e. absurd (false≢true e);
  constant_word = λ e. pow_pos w;
  difference_word = pow_pos w;
  second_unused = λ e. absurd (true≢false e);
  amount_unused = λ e. refl;
  constant_unused = λ e. refl;
}

module _ (w : ℕ) where
  line_of_largest : (k : ℕ) → k < most_lines → line_at (largest w) k ≡ addition
  unfolding largest line_at
  line_of_largest k h = get_or-replicate most_lines k addition no_line h

  largest_well_formed : 2 ≤ w → WellFormed (largest w)
  unfolding largest
  largest_well_formed wide = record {
    width_least = wide;
    inputs_least = omega arith;
    lines_least = omega arith;
    inputs_words = λ j h. rw (get_or-replicate {A = ℕ} most_inputs j 0 0 h) (pow_pos w);
    lines_right = λ k h. rw (line_of_largest k h) (addition_right w (most_inputs + k) (omega arith));
  }

  largest_sized : Sized w (largest w)
  unfolding largest
  largest_sized = record { width_most = omega arith; inputs_most = omega arith; lines_most = omega arith }

  largest_adds : (k : ℕ) → k < most_lines → adds (largest w) k ≡ true
  unfolding kind_of
  largest_adds k h = ap (λ (l : Line). has_carries (kind_of l.kind)) (line_of_largest k h)

  variables_met : variables (largest w) ≡ most_variables w
  unfolding largest variables variables_before
  variables_met = ap (λ (c : ℕ). w * most_words + 2 * (w - 1) * c) (count_all most_lines (adds (largest w)) largest_adds)

  module _ (wide : 2 ≤ w) where
    clauses_met : clause_count (largest w) ≡ most_clauses w
    unfolding largest clause_count kind_of
    clauses_met =
        total_cong most_lines (λ k. length (line_clauses (largest w) k)) (λ k. size_of clauses_of_gate (most_gates w))
        (λ k h.
        line_clauses_length (largest_well_formed wide) k h ∙ ap (λ (l : Line). size_of clauses_of_gate (gate_counts w l)) (line_of_largest k h))
        ∙ total_same most_lines (size_of clauses_of_gate (most_gates w))

    numbers_met : (k : ℕ) → k < line_count (largest w) → length (line_list (largest w) k) ≡ most_numbers w
    unfolding largest kind_of
    numbers_met k h =
        line_list_length (largest_well_formed wide) k h ∙ ap (λ (l : Line). size_of numbers_of_gate (gate_counts w l)) (line_of_largest k h)

    limits_met : MeetsLimits w (largest w)
    limits_met = record {
      well_formed = largest_well_formed wide;
      sized = largest_sized;
      variables_met = variables_met;
      clauses_met = clauses_met;
      numbers_met = numbers_met;
    }

pub limits_right : LimitsRight
limits_right = record {
  never_passed = λ w t good small. within_limits w small good;
  met = limits_met;
  variables_32 = refl;
  clauses_32 = refl;
  numbers_32 = refl;
}
