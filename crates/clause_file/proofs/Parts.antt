-- The file is its parts, and how long they are at most.
use Prim.Native.Nat.{ℕ, zero, suc, ◌+◌, ◌*◌, ◌^◌, ◌≤◌, ◌<◌}
use native.Mathlib.Omega.{arith}
use native.Mathlib.Numerals.{add-one}
use mathlib.Core.Path.{◌≡◌, sym, ap, ◌∙◌}
use mathlib.Core.List.{List, [], ◌∷◌, ◌++◌}
use lib.ListN.{length, length-append}
use Rattle.words.proofs.Below.{concat_first}
use Rattle.trail.specs.Trail.{Trail, line_count}
use Rattle.trail.specs.WellFormed.{WellFormed, Sized}
use Rattle.clause_lists.specs.Variables.{variables}
use Rattle.clause_lists.specs.Lists.{line_clauses, line_list, clause_count}
use Rattle.clause_lists.specs.Limits.{WithinLimits}
use Rattle.clause_lists.proofs.BothRuns.{nonzero_line}
use Rattle.clause_lists.proofs.LimitsMet.{limits_right}
use Rattle.clause_lists.proofs.TrailLiterals.{line_names_variables}
use Rattle.sheet.specs.Fields.{trail_of}
use Rattle.sheet.specs.Questions.{IsAccepted}
use Rattle.sheet.specs.declared.Mode.TheVariants.{Read}
use Rattle.sheet.proofs.WellFormed.{accepted_well_formed, accepted_sized}
use Rattle.decimal.specs.Ascii.{ascii}
use Rattle.decimal.specs.Decimal.{decimal, spaced}
use Rattle.decimal.proofs.Decimals.{length_most_lem}
use Rattle.decimal.proofs.Writing.{length_spaced}
use Rattle.dimacs.specs.Text.{header_text, clauses_text}
use Rattle.dimacs.proofs.ClausesText.{clauses_text_concat}
use Rattle.dimacs.specs.Numbers.{numbers_text, AllBelow}
use Rattle.dimacs.proofs.NumbersText.{same_text, text_within}
use Rattle.clause_file.specs.File.{file_text}
use Rattle.clause_file.specs.Parts.{file_part, FileIsItsParts, most_bytes, PartsAreWithin}

pub file_is_its_parts : FileIsItsParts
unfolding file_text file_part
file_is_its_parts t =
    ap (λ (text : List ℕ). header_text (variables t) (clause_count t) ++ text) (clauses_text_concat (line_count t) (line_clauses t))
    ∙ sym (rw add-one (concat_first (line_count t) (file_part t)))

-- the text of a line's list is that of its clauses
pub list_text : (t : Trail) (k : ℕ) → numbers_text (line_list t k) ≡ file_part t (suc k)
unfolding file_part line_list
list_text t k = same_text (line_clauses t k) (nonzero_line t k)

-- ---- lengths

-- six digits are enough for both counts
pub header_most : (v c : ℕ) → v < 1000000 → c < 1000000 → length (header_text v c) ≤ 64
unfolding header_text ascii
header_most v c h g =
    omega (
      arith,
      length-append (spaced v) (spaced c ++ (10 ∷ [])),
      length-append (spaced c) (10 ∷ []),
      length_spaced v,
      length_spaced c,
      length_most_lem 5 v (omega arith),
      length_most_lem 5 c (omega arith),
    )

module _ (s : List ℕ) (accepts : IsAccepted s) where
  good : WellFormed (trail_of s)
  good = accepted_well_formed Read s accepts

  limits : WithinLimits 32 (trail_of s)
  limits = limits_right.never_passed 32 (trail_of s) good (accepted_sized Read s accepts)

  -- a sheet has at most 23,568 variables: five digits
  pub five_digits : (k : ℕ) → k < line_count (trail_of s) → AllBelow (10 ^ 5) (line_list (trail_of s) k)
  five_digits k h i l = omega (arith, line_names_variables good k h i l, limits.variables_most, limits_right.variables_32)

  pub header_short : length (file_part (trail_of s) zero) ≤ 64
  unfolding file_part
  header_short =
      header_most (variables (trail_of s)) (clause_count (trail_of s))
      (omega (arith, limits.variables_most, limits_right.variables_32))
      (omega (arith, limits.clauses_most, limits_right.clauses_32))

  -- 7 bytes a number are enough for a line's text
  pub line_within : (k : ℕ) → k < line_count (trail_of s) → length (file_part (trail_of s) (suc k)) ≤ 7 * length (line_list (trail_of s) k)
  line_within k h = omega (arith, text_within 4 (line_list (trail_of s) k) (five_digits k h), ap length (list_text (trail_of s) k))

pub parts_are_within : PartsAreWithin
parts_are_within s accepts zero h = omega (arith, header_short s accepts)
parts_are_within s accepts (suc k) h =
    omega (arith, line_within s accepts k (omega arith), (limits s accepts).numbers_most k (omega arith), limits_right.numbers_32)
