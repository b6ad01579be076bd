-- What satisfies the clauses of a line, and of all lines: both runs of each line are right.
use mathlib.Core.Path.{◌≡◌, sym, ap, ◌∙◌}
use mathlib.Core.Logic.{◌↔◌}
use mathlib.Core.Bool.{Bool, true, ◌&&◌, and-eq-true_iff}
use mathlib.Core.List.{List, ◌++◌}
use Prim.Native.Nat.{ℕ, ◌+◌, ◌<◌}
use lib.IntN.{ℤ}
use Rattle.words.specs.Below.{concat}
use Rattle.trail.specs.Trail.{Trail, input_count, line_count, line_at}
use Rattle.trail.specs.WellFormed.{WellFormed}
use Rattle.cnf.specs.Formulas.{all_hold, satisfies}
use Rattle.cnf.proofs.Clauses.{Nonzero, nonzero_neg, EveryIn, every_in_append, every_in_concat, all_hold_append, all_hold_concat, numbers_concat, satisfies_numbers}
use Rattle.clause_lists.specs.Variables.{Run, bit_literal, carry_literal}
use Rattle.clause_lists.specs.Variables.Run.{firstRun, secondRun}
use Rattle.clause_lists.specs.Lists.{clauses_in, line_clauses, line_list, joined}
use Rattle.clause_lists.proofs.RunLiterals.{every_run}
use Rattle.clause_lists.proofs.OneRun.{RunRight, run_iff}
use Rattle.clause_lists.proofs.TrailLiterals.{nonzero_run}

-- both runs of line k
abbrev pub LineRight : Trail → (ℕ → Bool) → ℕ → Type 0
LineRight t v k =
    (run : Run) → RunRight v t.width (input_count t + k) (line_at t k) (bit_literal t run) (carry_literal t run k)

pub nonzero_line : (t : Trail) (k : ℕ) → EveryIn Nonzero (line_clauses t k)
unfolding line_clauses clauses_in
nonzero_line t k =
    every_in_append Nonzero (clauses_in t firstRun k) (clauses_in t secondRun k)
    (every_run (nonzero_run t firstRun k) nonzero_neg)
    (every_run (nonzero_run t secondRun k) nonzero_neg)

module _ {t : Trail} (good : WellFormed t) (v : ℕ → Bool) where
  line_iff : (k : ℕ) → k < line_count t → (all_hold v (line_clauses t k) ≡ true) ↔ LineRight t v k
  unfolding line_clauses clauses_in
  line_iff k h = (
    λ a. both (parts.0 (sym apart ∙ a)),
    λ r. apart ∙ parts.1 ((one firstRun).1 (r firstRun), (one secondRun).1 (r secondRun)),
  )
    where
      clauses : Run → List (List ℤ)
      clauses run = clauses_in t run k

      apart : all_hold v (clauses firstRun ++ clauses secondRun) ≡ (all_hold v (clauses firstRun) && all_hold v (clauses secondRun))
      apart = all_hold_append v (clauses firstRun) (clauses secondRun)

      parts : ((all_hold v (clauses firstRun) && all_hold v (clauses secondRun)) ≡ true)
          ↔ ((all_hold v (clauses firstRun) ≡ true) × (all_hold v (clauses secondRun) ≡ true))
      parts = and-eq-true_iff (all_hold v (clauses firstRun)) (all_hold v (clauses secondRun))

      one : (run : Run) → (all_hold v (clauses run) ≡ true)
          ↔ RunRight v t.width (input_count t + k) (line_at t k) (bit_literal t run) (carry_literal t run k)
      one run = run_iff v (good.lines_right k h) (nonzero_run t run k)

      both : (all_hold v (clauses firstRun) ≡ true) × (all_hold v (clauses secondRun) ≡ true) → LineRight t v k
      both a firstRun = (one firstRun).0 a.0
      both a secondRun = (one secondRun).0 a.1

  satisfies_joined : satisfies v (joined t) ≡ all_hold v (concat (line_count t) (line_clauses t))
  unfolding joined line_list
  satisfies_joined =
      ap (satisfies v) (numbers_concat (line_count t) (line_clauses t))
      ∙ satisfies_numbers v (concat (line_count t) (line_clauses t))
      (every_in_concat Nonzero (line_count t) (line_clauses t) (λ k _. nonzero_line t k))

  pub joined_iff : (satisfies v (joined t) ≡ true) ↔ ((k : ℕ) → k < line_count t → LineRight t v k)
  joined_iff = (
    λ a k h. (line_iff k h).0 (lines.0 (sym satisfies_joined ∙ a) k h),
    λ r. satisfies_joined ∙ lines.1 (λ k h. (line_iff k h).1 (r k h)),
  )
    where
      lines : (all_hold v (concat (line_count t) (line_clauses t)) ≡ true)
          ↔ ((k : ℕ) → k < line_count t → all_hold v (line_clauses t k) ≡ true)
      lines = all_hold_concat v (line_count t) (line_clauses t)
