-- The last variable occurs in the joined list. Variables are numbered line by line: the last of those before the first line is the
-- last word's top bit, and an addition line adds its own, of which the last is the second run's carry into bit n - 1.
use mathlib.Core.Path.{◌≡◌, refl, ap, subst, ◌∙◌}
use mathlib.Core.Bool.{Bool, true, false, false≢true}
use mathlib.Core.List.{◌++◌}
use Prim.Native.Nat.{ℕ, zero, suc, ◌+◌, ◌-◌, ◌*◌, ◌≤◌, ◌<◌}
use native.Mathlib.Nat.{mul-suc, mul-add}
use native.Mathlib.Omega.{arith}
use borrow.Author.Tests.{lt-ltb}
use lib.IntN.{ℤ, neg_ℤ, nat_abs}
use Rattle.words.specs.Words.{value}
use Rattle.words.specs.Below.{count, concat}
use Rattle.trail.specs.declared.Line.{Line}
use Rattle.trail.specs.Kinds.{kind_of}
use Rattle.trail.specs.Trail.{Trail, input_count, line_count, line_at}
use Rattle.trail.specs.WellFormed.{WellFormed}
use Rattle.cnf.specs.Gates.{gate}
use Rattle.cnf.proofs.Clauses.{numbers_concat, SomeIn, some_in_left, some_in_right, some_in_concat}
use Rattle.cnf.proofs.GateLemma.{some_gate}
use Rattle.clause_lists.specs.Kinds.{Carries, some_carries, gates, has_carries, parity}
use Rattle.clause_lists.specs.Kinds.Carries.{none, made}
use Rattle.clause_lists.specs.Variables.{Run, bit_variable, adds, variables_before, carry_variable, variables, bit_literal, carry_literal}
use Rattle.clause_lists.specs.Variables.Run.{firstRun, secondRun}
use Rattle.clause_lists.specs.Lists.{inputs, next_clauses, bit_clauses, run_clauses, clauses_in, line_clauses, line_list, joined}
use Rattle.clause_lists.specs.Pairing.{NamesLast}
use Rattle.clause_lists.proofs.TrailLiterals.{magnitude_neg}

-- ---- the outputs of a run

module _ (P : ℤ → Type 0) (neg : (z : ℤ) → P z → P (neg_ℤ z)) (n j : ℕ) (l : Line) (word : ℕ → ℕ → ℤ) (carry : ℕ → ℤ) where
  some_result : (i : ℕ) → i < n → P (word j i) → SomeIn P (run_clauses n j l word carry)
  unfolding run_clauses bit_clauses
  some_result i h p =
      some_in_concat P n (bit_clauses n j l word carry) i h
      (some_in_left P (gate parity (inputs n j l word carry i) (word j i)) _
      (some_gate P neg parity (inputs n j l word carry i) (word j i) p))

  some_carry : (i : ℕ) → i + 1 < n → has_carries (kind_of l.kind) ≡ true → P (carry (i + 1)) → SomeIn P (run_clauses n j l word carry)
  unfolding run_clauses bit_clauses
  some_carry i h some p =
      some_in_concat P n (bit_clauses n j l word carry) i (omega arith)
      (some_in_right P (gate parity (inputs n j l word carry i) (word j i)) _
      (rw (lt-ltb (i + 1) n h) (at (gates (kind_of l.kind)).carries some)))
    where
      at : (cs : Carries) → some_carries cs ≡ true → SomeIn P (next_clauses n j l word carry cs i)
      at none e = absurd (false≢true e)
      at (made next value) e = some_gate P neg next (inputs n j l word carry i) (carry (i + 1)) p

-- ---- the outputs of a trail

-- the literal's variable is number v
abbrev Of : ℕ → ℤ → Type 0
Of v z = nat_abs z ≡ v

of_neg : (v : ℕ) (z : ℤ) → Of v z → Of v (neg_ℤ z)
of_neg v z e = magnitude_neg z ∙ e

-- variable v is in the clauses of all lines
abbrev Occurs : Trail → ℕ → Type 0
Occurs t v = SomeIn (Of v) (concat (line_count t) (line_clauses t))

module _ (t : Trail) (v k : ℕ) (h : k < line_count t) where
  occurs_run : (run : Run) → SomeIn (Of v) (clauses_in t run k) → Occurs t v
  unfolding line_clauses
  occurs_run run s = some_in_concat (Of v) (line_count t) (line_clauses t) k h (at run s)
    where
      at : (run : Run) → SomeIn (Of v) (clauses_in t run k) → SomeIn (Of v) (clauses_in t firstRun k ++ clauses_in t secondRun k)
      at firstRun s = some_in_left (Of v) (clauses_in t firstRun k) (clauses_in t secondRun k) s
      at secondRun s = some_in_right (Of v) (clauses_in t firstRun k) (clauses_in t secondRun k) s

  occurs_bit : (i : ℕ) → i < t.width → bit_variable t (input_count t + k) i ≡ v → Occurs t v
  unfolding clauses_in bit_literal
  occurs_bit i l e =
      occurs_run firstRun
      (some_result (Of v) (of_neg v) t.width (input_count t + k) (line_at t k) (bit_literal t firstRun) (carry_literal t firstRun k)
      i l e)

  occurs_carry : (i : ℕ) → i + 1 < t.width → adds t k ≡ true → carry_variable t secondRun k (i + 1) ≡ v → Occurs t v
  unfolding clauses_in carry_literal
  occurs_carry i l add e =
      occurs_run secondRun
      (some_carry (Of v) (of_neg v) t.width (input_count t + k) (line_at t k) (bit_literal t secondRun) (carry_literal t secondRun k)
      i l add e)

module _ {t : Trail} (good : WellFormed t) where
  last_word : Occurs t (variables_before t 0)
  unfolding variables_before bit_variable count
  last_word =
      occurs_bit t (variables_before t 0) (line_count t - 1) (omega (arith, good.lines_least))
      (t.width - 1) (omega (arith, good.width_least))
      (omega (
        arith,
        good.width_least,
        mul-suc t.width (input_count t + (line_count t - 1)),
        ap (λ (z : ℕ). t.width * z) whole,
      ))
    where
      whole : suc (input_count t + (line_count t - 1)) ≡ input_count t + line_count t
      whole = omega (arith, good.lines_least)

  -- line k has as many variables of its own as it has carries
  next : (k : ℕ) (b : Bool) → adds t k ≡ b → variables_before t k + 2 * (t.width - 1) * value b ≡ variables_before t (suc k)
  unfolding variables_before count
  next k b e =
      omega (
        arith,
        mul-add (2 * (t.width - 1)) (count k (adds t)) (value b),
        ap (λ (c : Bool). 2 * (t.width - 1) * (count k (adds t) + value c)) e,
      )

  occurs_before : (k : ℕ) → k ≤ line_count t → Occurs t (variables_before t k)
  unfolding carry_variable
  occurs_before zero h = last_word
  occurs_before (suc k) h = at (adds t k) refl (occurs_before k (omega arith))
    where
      at : (b : Bool) → adds t k ≡ b → Occurs t (variables_before t k) → Occurs t (variables_before t (suc k))
      at true e before =
          occurs_carry t (variables_before t (suc k)) k h (t.width - 2) (omega (arith, good.width_least)) e
          (omega (arith, good.width_least, next k true e))
      at false e before = subst (Occurs t) (omega (arith, next k false e)) before

  pub names_last : NamesLast t (joined t)
  unfolding joined line_list variables
  names_last = rw (numbers_concat (line_count t) (line_clauses t)) (occurs_before (line_count t) (omega arith))
