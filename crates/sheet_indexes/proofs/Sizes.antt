-- How long an index is.
use Prim.Native.Nat.{ℕ, zero, suc, ◌+◌, ◌*◌, ◌<◌, ◌≤◌}
use native.Mathlib.Nat.{one-mul}
use native.Mathlib.Decide.{ℕ_discrete}
use native.Mathlib.Omega.{arith}
use mathlib.Core.Path.{◌≡◌, refl, sym, ap, ◌∙◌}
use mathlib.Core.Bool.{Bool, true, false, ◌&&◌, ◌||◌}
use mathlib.Core.List.{List}
use borrow.Author.Tests.{eq-eqb, ne_eqb}
use lib.Dec.{eqb}
use lib.ListN.{length}
use Rattle.words.specs.Words.{value}
use Rattle.words.specs.Below.{count, total}
use Rattle.words.proofs.Below.{count_none, total_cong, total_add, total_same, total_le, exchange}
use Rattle.words.proofs.LowBits.{count_total}
use Rattle.trail.specs.declared.Line.{Line}
use Rattle.trail.specs.Kinds.{kind_of, uses_second}
use Rattle.trail.specs.Trail.{Trail, input_count, line_count, line_at}
use Rattle.sheet.specs.Fields.{header_of, trail_of}
use Rattle.sheet.specs.Facts.{SheetRead}
use Rattle.sheet.specs.Questions.{IsAccepted}
use Rattle.sheet.specs.declared.Header.{Header}
use Rattle.sheet.proofs.WellFormed.{has_read}
use Rattle.sheet_indexes.specs.Users.{names_word, users}
use Rattle.sheet_indexes.specs.Index.{word_count, index_of, part_start, uses, IndexesAreSized, most_numbers, MostIsEnough}
use Rattle.sheet_indexes.proofs.Users.{users_count}
use Rattle.sheet_indexes.proofs.Index.{index_length}

-- ---- a line names at most two words

-- a number is met at most once
met_once : (b y : ℕ) → total b (λ j. value (eqb y j)) ≤ 1
unfolding total
met_once zero y = omega arith
met_once (suc b) y = at (ℕ_discrete y b) (met_once b y)
  where
    at : Dec (y ≡ b) → total b (λ j. value (eqb y j)) ≤ 1 → total b (λ j. value (eqb y j)) + value (eqb y b) ≤ 1
    at (yes e) h = omega (arith, ap value (eq-eqb y b e), sym (count_total b (eqb y)), count_none b (eqb y) (λ j l. ne_eqb y j (λ s. omega arith)))
    at (no n) h = omega (arith, ap value (ne_eqb y b n))

value_or : (p u q : Bool) → value (p || (u && q)) ≤ value p + value q
value_or true true true = omega arith
value_or true true false = omega arith
value_or true false true = omega arith
value_or true false false = omega arith
value_or false true true = omega arith
value_or false true false = omega arith
value_or false false true = omega arith
value_or false false false = omega arith

two_words_lem : (b : ℕ) (l : Line) → count b (names_word l) ≤ 2
unfolding names_word
two_words_lem b l =
    omega (
      arith,
      count_total b (names_word l),
      total_le b (λ j. value (names_word l j)) (λ j. value (eqb l.first j) + value (eqb l.second j))
          (λ j h. value_or (eqb l.first j) (uses_second (kind_of l.kind)) (eqb l.second j)),
      total_add b (λ j. value (eqb l.first j)) (λ j. value (eqb l.second j)),
      met_once b l.first,
      met_once b l.second,
    )

-- ---- the sum over words is the sum over lines

module _ (t : Trail) where
  abbrev named_by : ℕ → ℕ → ℕ
  named_by j i = value (names_word (line_at t i) j)

  -- one number for the count, and one for each line
  part : (j : ℕ) → 1 + length (users t j) ≡ 1 + total (line_count t) (named_by j)
  part j = ap (λ (n : ℕ). 1 + n) (users_count t j ∙ count_total (line_count t) (λ i. names_word (line_at t i) j))

  by_lines : total (word_count t) (λ j. total (line_count t) (named_by j)) ≡ uses t
  unfolding uses
  by_lines =
      exchange (word_count t) (line_count t) named_by
      ∙ total_cong (line_count t) (λ i. total (word_count t) (λ j. named_by j i)) (λ i. count (word_count t) (names_word (line_at t i)))
      (λ i l. sym (count_total (word_count t) (names_word (line_at t i))))

  long : length (index_of t) ≡ input_count t + line_count t + uses t
  unfolding part_start
  long =
      index_length t
      ∙ total_cong (word_count t) (λ j. 1 + length (users t j)) (λ j. 1 + total (line_count t) (named_by j)) (λ j l. part j)
      ∙ total_add (word_count t) (λ j. 1) (λ j. total (line_count t) (named_by j))
      ∙ omega (arith, total_same (word_count t) 1, one-mul (word_count t), by_lines)

  two_a_line : uses t ≤ 2 * line_count t
  unfolding uses
  two_a_line =
      omega (
        arith,
        total_le (line_count t) (λ i. count (word_count t) (names_word (line_at t i))) (λ i. 2) (λ i l. two_words_lem (word_count t) (line_at t i)),
        total_same (line_count t) 2,
      )

pub indexes_are_sized : IndexesAreSized
indexes_are_sized t = record { long = long t; two_a_line = two_a_line t }

-- the same of a sheet that was read
pub index_most : {s : List ℕ} {h : Header} → SheetRead s h → length (index_of (trail_of s)) ≤ most_numbers
index_most {s} read =
    omega (arith, long (trail_of s), two_a_line (trail_of s), read.inputs, read.lines, read.limits.inputs_most, read.limits.lines_most)

pub most_is_enough : MostIsEnough
most_is_enough s accepts = index_most (has_read s (header_of s) accepts refl)
