-- The literals of a trail: none is 0, and each names a variable of the trail.
use mathlib.Core.Path.{◌≡◌, refl, ap}
use mathlib.Core.Bool.{Bool, true, false, cond}
use Prim.Native.Nat.{ℕ, zero, suc, ◌+◌, ◌-◌, ◌*◌, ◌≤◌, ◌<◌}
use native.Mathlib.Nat.{mul-suc, mul-le-mul_left}
use native.Mathlib.Omega.{arith}
use lib.IntN.{ℤ, pos, negsuc, neg_ℤ, nat_abs}
use Rattle.words.specs.Words.{value, bit}
use Rattle.words.specs.Below.{count, concat}
use Rattle.words.proofs.Below.{count_split}
use Rattle.trail.specs.Trail.{Trail, input_count, line_count, line_at, difference_at}
use Rattle.trail.specs.WellFormed.{WellFormedLine, WellFormed}
use Rattle.cnf.specs.Formulas.{numbers}
use Rattle.cnf.proofs.Clauses.{Nonzero, nonzero_neg, EveryIn, every_in_append, every_in_concat, every_get_or, every_numbers, numbers_concat}
use Rattle.clause_lists.specs.Variables.{Run, bit_variable, adds, variables_before, carry_variable, variables, bit_literal, carry_literal}
use Rattle.clause_lists.specs.Variables.Run.{firstRun, secondRun}
use Rattle.clause_lists.specs.Lists.{clauses_in, line_clauses, line_list, joined}
use Rattle.clause_lists.specs.Pairing.{NamesVariables}
use Rattle.clause_lists.proofs.RunLiterals.{Literals, every_run}

-- what holds of a variable and of a literal's negation holds of a word's bit in either run
bit_literal_lem : (P : ℤ → Type 0) → ((l : ℤ) → P l → P (neg_ℤ l)) → (t : Trail) (run : Run) (j i : ℕ)
    → P (pos (bit_variable t j i)) → P (bit_literal t run j i)
unfolding bit_literal
bit_literal_lem P neg t firstRun j i h = h
bit_literal_lem P neg t secondRun j i h = at (bit (difference_at t j) i)
  where
    at : (b : Bool) → P (cond b (neg_ℤ (pos (bit_variable t j i))) (pos (bit_variable t j i)))
    at true = neg (pos (bit_variable t j i)) h
    at false = h

-- ---- none is 0

nonzero_pos : (k : ℕ) → 1 ≤ k → Nonzero (pos k)
nonzero_pos zero h = absurd (omega arith)
nonzero_pos (suc k) h = tt

pub nonzero_bit : (t : Trail) (run : Run) (j i : ℕ) → Nonzero (bit_literal t run j i)
unfolding bit_variable
nonzero_bit t run j i = bit_literal_lem Nonzero nonzero_neg t run j i (nonzero_pos (t.width * j + i + 1) (omega arith))

nonzero_carry : (t : Trail) (run : Run) (k i : ℕ) → Nonzero (carry_literal t run k (suc i))
unfolding carry_literal carry_variable
nonzero_carry t firstRun k i = nonzero_pos (variables_before t k + suc i) (omega arith)
nonzero_carry t secondRun k i = nonzero_pos (variables_before t k + (t.width - 1) + suc i) (omega arith)

pub nonzero_run : (t : Trail) (run : Run) (k : ℕ)
    → Literals Nonzero t.width (input_count t + k) (line_at t k) (bit_literal t run) (carry_literal t run k)
nonzero_run t run k = record {
  result = λ i _. nonzero_bit t run (input_count t + k) i;
  first = λ i _. nonzero_bit t run (line_at t k).first i;
  second = λ _ i _. nonzero_bit t run (line_at t k).second i;
  carries = λ _ i _. nonzero_carry t run k i;
}

-- ---- each names a variable

pub magnitude_neg : (l : ℤ) → nat_abs (neg_ℤ l) ≡ nat_abs l
magnitude_neg (pos zero) = refl
magnitude_neg (pos (suc k)) = refl
magnitude_neg (negsuc k) = refl

module _ (t : Trail) where
  abbrev Names : ℤ → Type 0
  Names l = nat_abs l ≤ variables t

  names_neg : (l : ℤ) → Names l → Names (neg_ℤ l)
  names_neg l h = rw (magnitude_neg l) h

  names_bit : (run : Run) (j i : ℕ) → j < input_count t + line_count t → i < t.width → Names (bit_literal t run j i)
  unfolding bit_variable variables variables_before
  names_bit run j i hj hi =
      bit_literal_lem Names names_neg t run j i
      (omega (arith, mul-suc t.width j, mul-le-mul_left {m = suc j} {n = input_count t + line_count t} t.width hj))

  -- line k's carries are those between the variables before it and those before the next line
  carry_variable_lem : (run : Run) (k i : ℕ) → suc i < t.width → carry_variable t run k (suc i) ≤ variables_before t k + 2 * (t.width - 1)
  unfolding carry_variable
  carry_variable_lem firstRun k i h = omega arith
  carry_variable_lem secondRun k i h = omega arith

  variables_after : (k : ℕ) → k < line_count t → adds t k ≡ true → variables_before t k + 2 * (t.width - 1) ≤ variables t
  unfolding variables variables_before count
  variables_after k h e = omega (arith, mul-suc size (count k (adds t)), mul-le-mul_left size more)
    where
      size : ℕ
      size = 2 * (t.width - 1)

      whole : line_count t ≡ suc k + (line_count t - suc k)
      whole = omega arith

      more : suc (count k (adds t)) ≤ count (line_count t) (adds t)
      more =
          omega (
            arith,
            ap (λ (z : ℕ). count z (adds t)) whole,
            count_split (suc k) (line_count t - suc k) (adds t),
            ap value e,
          )

  names_carry : (run : Run) (k i : ℕ) → k < line_count t → adds t k ≡ true → suc i < t.width → Names (carry_literal t run k (suc i))
  unfolding carry_literal
  names_carry run k i h e l = omega (arith, carry_variable_lem run k i l, variables_after k h e)

module _ {t : Trail} (good : WellFormed t) where
  names_run : (run : Run) (k : ℕ) → k < line_count t
      → Literals (Names t) t.width (input_count t + k) (line_at t k) (bit_literal t run) (carry_literal t run k)
  names_run run k h = record {
    result = λ i l. names_bit t run (input_count t + k) i (omega arith) l;
    first = λ i l. names_bit t run (line_at t k).first i (omega (arith, line.first_earlier)) l;
    second = λ e i l. names_bit t run (line_at t k).second i (omega (arith, line.second_earlier e)) l;
    carries = λ e i l. names_carry t run k i h e l;
  }
    where
      line : WellFormedLine t.width (input_count t + k) (line_at t k)
      line = good.lines_right k h

  names_line : (k : ℕ) → k < line_count t → EveryIn (Names t) (line_clauses t k)
  unfolding line_clauses clauses_in
  names_line k h =
      every_in_append (Names t) (clauses_in t firstRun k) (clauses_in t secondRun k)
      (every_run (names_run firstRun k h) (names_neg t))
      (every_run (names_run secondRun k h) (names_neg t))

  pub names_variables : NamesVariables t (joined t)
  unfolding joined line_list
  names_variables =
      rw (numbers_concat (line_count t) (line_clauses t))
      (every_get_or (Names t) (numbers (concat (line_count t) (line_clauses t)))
      (every_numbers (Names t) (omega arith) (concat (line_count t) (line_clauses t))
      (every_in_concat (Names t) (line_count t) (line_clauses t) names_line)))

  pub line_names_variables : (k : ℕ) → k < line_count t → NamesVariables t (line_list t k)
  unfolding line_list
  line_names_variables k h =
      every_get_or (Names t) (numbers (line_clauses t k)) (every_numbers (Names t) (omega arith) (line_clauses t k) (names_line k h))
