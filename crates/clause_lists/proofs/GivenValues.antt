-- The values that a starting value gives, variable by variable: `Given` and `assignment_from` say the same.
use mathlib.Core.Path.{◌≡◌, refl, sym, ap, ap₂, subst, ◌∙◌}
use mathlib.Core.Logic.{◌↔◌}
use mathlib.Core.Bool.{Bool, true, false, cond, false≢true}
use mathlib.Core.List.{List, [], ◌++◌}
use Prim.Native.Nat.{ℕ, ◌+◌, ◌-◌, ◌*◌, ◌≤◌, ◌<◌}
use native.Mathlib.Nat.{mul-zero}
use native.Mathlib.Omega.{arith}
use lib.ListN.{length, length-append}
use Rattle.words.specs.Words.{value, bit}
use Rattle.words.specs.Below.{count, total, tabulate, concat}
use Rattle.words.proofs.Below.{length_tabulate, total_cong, total_mul, length_concat, total_same}
use Rattle.words.proofs.LowBits.{count_total}
use Rattle.trail.specs.Trail.{Trail, input_count, line_count}
use Rattle.trail.specs.Runs.{run_word}
use Rattle.cnf.specs.Formulas.{variable}
use Rattle.clause_lists.specs.Variables.{Run, adds, bit_variable, carry_variable, variables_before, variables}
use Rattle.clause_lists.specs.Variables.Run.{firstRun, secondRun}
use Rattle.clause_lists.specs.Assignments.{carry_of, Given, line_carries, assignment_from}
use Rattle.clause_lists.proofs.Places.{Values, values_append, values_none, values_concat, values_tabulate, values_all}

module _ (t : Trail) (x : List ℕ) where
  -- ---- how many

  abbrev word_bits : ℕ → List Bool
  word_bits j = tabulate t.width (bit (run_word t x j))

  abbrev run_carries : Run → ℕ → List Bool
  run_carries run k = tabulate (t.width - 1) (λ i. carry_of t run x k (i + 1))

  words_length : (k : ℕ) → total k (λ j. length (word_bits j)) ≡ t.width * k
  words_length k =
      total_cong k (λ j. length (word_bits j)) (λ j. t.width) (λ j _. length_tabulate t.width (bit (run_word t x j)))
      ∙ total_same k t.width

  length_run_carries : (run : Run) (k : ℕ) → length (run_carries run k) ≡ t.width - 1
  length_run_carries run k = length_tabulate (t.width - 1) (λ i. carry_of t run x k (i + 1))

  length_line_carries : (k : ℕ) → length (line_carries t x k) ≡ 2 * (t.width - 1) * value (adds t k)
  unfolding line_carries
  length_line_carries k = at (adds t k)
    where
      at : (b : Bool)
          → length (cond b (run_carries firstRun k ++ run_carries secondRun k) []) ≡ 2 * (t.width - 1) * value b
      at true =
          length-append (run_carries firstRun k) (run_carries secondRun k)
          ∙ ap₂ ◌+◌ (length_run_carries firstRun k) (length_run_carries secondRun k)
          ∙ omega arith
      at false = sym (mul-zero (2 * (t.width - 1)))

  carries_length : (k : ℕ) → total k (λ i. length (line_carries t x i)) ≡ 2 * (t.width - 1) * count k (adds t)
  carries_length k =
      total_cong k (λ i. length (line_carries t x i)) (λ i. 2 * (t.width - 1) * value (adds t i)) (λ i _. length_line_carries i)
      ∙ total_mul k (2 * (t.width - 1)) (λ i. value (adds t i))
      ∙ ap (λ (z : ℕ). 2 * (t.width - 1) * z) (sym (count_total k (adds t)))

  all_words_length : length (concat (input_count t + line_count t) word_bits) ≡ t.width * (input_count t + line_count t)
  all_words_length =
      length_concat (input_count t + line_count t) word_bits ∙ words_length (input_count t + line_count t)

  pub length_assignment_from : length (assignment_from t x) ≡ variables t
  unfolding assignment_from variables variables_before
  length_assignment_from =
      length-append (concat (input_count t + line_count t) word_bits) (concat (line_count t) (line_carries t x))
      ∙ ap₂ ◌+◌ all_words_length (length_concat (line_count t) (line_carries t x) ∙ carries_length (line_count t))

  -- ---- which

  module _ (v : ℕ → Bool) where
    abbrev WordRight : ℕ → Type 0
    WordRight j = (i : ℕ) → i < t.width → v (bit_variable t j i) ≡ bit (run_word t x j) i

    abbrev CarriesRight : Run → ℕ → Type 0
    CarriesRight run k = (i : ℕ) → 1 ≤ i → i < t.width → v (carry_variable t run k i) ≡ carry_of t run x k i

    word_values : (j : ℕ) → Values v (1 + total j (λ i. length (word_bits i))) (word_bits j) ↔ WordRight j
    unfolding bit_variable
    word_values j = (
      λ h i l. ap v (sym (place i)) ∙ (values_tabulate v _ t.width (bit (run_word t x j))).0 h i l,
      λ h. (values_tabulate v _ t.width (bit (run_word t x j))).1 (λ i l. ap v (place i) ∙ h i l),
    )
      where
        place : (i : ℕ) → 1 + total j (λ i. length (word_bits i)) + i ≡ t.width * j + i + 1
        place i = omega (arith, words_length j)

    -- a run's carries, from variable p on
    run_values : (run : Run) (k p : ℕ) → ((i : ℕ) → carry_variable t run k (i + 1) ≡ p + i)
        → Values v p (run_carries run k) ↔ CarriesRight run k
    run_values run k p place = (
      λ h i least l.
          subst (λ (z : ℕ). v (carry_variable t run k z) ≡ carry_of t run x k z) (before i least)
          (ap v (place (i - 1)) ∙ (values_tabulate v p (t.width - 1) (λ i. carry_of t run x k (i + 1))).0 h (i - 1) (omega arith)),
      λ h.
          (values_tabulate v p (t.width - 1) (λ i. carry_of t run x k (i + 1))).1
          (λ i l. ap v (sym (place i)) ∙ h (i + 1) (omega arith) (omega arith)),
    )
      where
        before : (i : ℕ) → 1 ≤ i → i - 1 + 1 ≡ i
        before i least = omega arith

    line_values : (k : ℕ) → Values v (1 + variables_before t k) (line_carries t x k)
        ↔ ((run : Run) → adds t k ≡ true → CarriesRight run k)
    unfolding line_carries carry_variable
    line_values k = at (adds t k)
      where
        p : ℕ
        p = 1 + variables_before t k

        one : Values v p (run_carries firstRun k) ↔ CarriesRight firstRun k
        one = run_values firstRun k p (λ i. omega arith)

        two : Values v (p + length (run_carries firstRun k)) (run_carries secondRun k) ↔ CarriesRight secondRun k
        two =
            run_values secondRun k (p + length (run_carries firstRun k))
            (λ i. omega (arith, length_run_carries firstRun k))

        parts : Values v p (run_carries firstRun k ++ run_carries secondRun k)
            ↔ (Values v p (run_carries firstRun k) × Values v (p + length (run_carries firstRun k)) (run_carries secondRun k))
        parts = values_append v p (run_carries firstRun k) (run_carries secondRun k)

        to : Values v p (run_carries firstRun k ++ run_carries secondRun k) → (run : Run) → CarriesRight run k
        to h firstRun = one.0 (parts.0 h).0
        to h secondRun = two.0 (parts.0 h).1

        at : (b : Bool) → Values v p (cond b (run_carries firstRun k ++ run_carries secondRun k) [])
            ↔ ((run : Run) → b ≡ true → CarriesRight run k)
        at true = (λ h run e. to h run, λ h. parts.1 (one.1 (h firstRun refl), two.1 (h secondRun refl)))
        at false = (λ h run e. absurd (false≢true e), λ h. values_none v p)

    all_values : Values v 1 (assignment_from t x)
        ↔ (((j : ℕ) → j < input_count t + line_count t → WordRight j)
        × ((k : ℕ) → k < line_count t → (run : Run) → adds t k ≡ true → CarriesRight run k))
    unfolding assignment_from variables_before
    all_values = (
      λ h. (
        λ j l. (word_values j).0 (words.0 (parts.0 h).0 j l),
        λ k l. (line_values k).0 (rw (sym (place k)) (lines.0 (parts.0 h).1 k l)),
      ),
      λ h. parts.1 (
        words.1 (λ j l. (word_values j).1 (h.0 j l)),
        lines.1 (λ k l. rw (place k) ((line_values k).1 (h.1 k l))),
      ),
    )
      where
        both : ℕ
        both = length (concat (input_count t + line_count t) word_bits)

        parts : Values v 1 (concat (input_count t + line_count t) word_bits ++ concat (line_count t) (line_carries t x))
            ↔ (Values v 1 (concat (input_count t + line_count t) word_bits)
            × Values v (1 + both) (concat (line_count t) (line_carries t x)))
        parts =
            values_append v 1 (concat (input_count t + line_count t) word_bits) (concat (line_count t) (line_carries t x))

        words : Values v 1 (concat (input_count t + line_count t) word_bits)
            ↔ ((j : ℕ) → j < input_count t + line_count t → Values v (1 + total j (λ i. length (word_bits i))) (word_bits j))
        words = values_concat v 1 (input_count t + line_count t) word_bits

        lines : Values v (1 + both) (concat (line_count t) (line_carries t x))
            ↔ ((k : ℕ) → k < line_count t → Values v (1 + both + total k (λ i. length (line_carries t x i))) (line_carries t x k))
        lines = values_concat v (1 + both) (line_count t) (line_carries t x)

        place : (k : ℕ) → 1 + both + total k (λ i. length (line_carries t x i))
            ≡ 1 + (t.width * (input_count t + line_count t) + 2 * (t.width - 1) * count k (adds t))
        place k = ap₂ (λ (u w : ℕ). 1 + u + w) all_words_length (carries_length k) ∙ omega arith

-- an assignment has the given values exactly when it is the one that the starting value gives
pub given_iff : (t : Trail) (x : List ℕ) (a : List Bool) → length a ≡ variables t → Given t x a ↔ (a ≡ assignment_from t x)
given_iff t x a e = (
  λ h. whole.0 ((all_values t x (variable a)).1 (h.words, λ k l run d. h.carries run k l d)),
  λ h.
      let r = (all_values t x (variable a)).0 (whole.1 h) in
      record { words = r.0; carries = λ run k l d. r.1 k l run d },
)
  where
    whole : Values (variable a) 1 (assignment_from t x) ↔ (a ≡ assignment_from t x)
    whole = values_all a (assignment_from t x) (e ∙ sym (length_assignment_from t x))
