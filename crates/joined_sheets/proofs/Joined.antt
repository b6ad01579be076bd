-- Two accepted sheets and a list of names that passes make an accepted sheet, which says the joined trail.
use Prim.Native.Nat.{ℕ, ◌+◌, ◌≤◌}
use native.Mathlib.Omega.{arith}
use mathlib.Core.Path.{◌≡◌, sym, ap, ◌∙◌}
use mathlib.Core.Bool.{true}
use mathlib.Core.List.{List}
use borrow.Author.Tests.{eqb-true, eq-eqb, leb-true, le-leb}
use Rattle.trail.specs.Trail.{Trail, line_count}
use Rattle.trail.specs.Runs.{is_start, follows}
use Rattle.trail.specs.WellFormed.{WellFormed, most_lines, Sized}
use Rattle.trail.specs.Joining.{names_right, NamesRight, Joins}
use Rattle.trail.proofs.JoinedNames.{Joinable, joinable, names_right_exactly}
use Rattle.trail.proofs.JoinedLines.{joined_count}
use Rattle.trail.proofs.JoinedWellFormed.{joined_sized}
use Rattle.trail.proofs.JoinedRuns.{joining_is_right}
use Rattle.sheet.specs.Form.{width_most}
use Rattle.sheet.specs.Asking.{all_yes}
use Rattle.sheet.specs.Fields.{form_of, trail_of}
use Rattle.sheet.specs.Questions.{IsAccepted}
use Rattle.sheet.specs.declared.Mode.TheVariants.{Read}
use Rattle.sheet.proofs.Asking.{yes_first, yes_rest, yes_verdict, comes}
use Rattle.sheet.proofs.Asking.Comes.{done, yes}
use Rattle.sheet.proofs.WellFormed.{accepted_limited, accepted_well_formed, accepted_sized}
use Rattle.sheet_encoding.specs.Encoding.{Encoded}
use Rattle.sheet_encoding.proofs.Encoded.{encoding_is_right}
use Rattle.trail_reports.specs.Lines.{line_report}
use Rattle.joined_sheets.specs.JoinedSheet.{join_questions, joined_trail, joined_sheet}
use Rattle.joined_sheets.specs.Theorem.{JoinPassesExactly, JoinedSheetsAreRight}
use Rattle.joined_sheets.proofs.JoinedReports.{first_report, second_report}

-- ---- questions 20 to 22

module _ (first second names : List ℕ) where
  abbrev first_trail : Trail
  first_trail = trail_of first

  abbrev second_trail : Trail
  second_trail = trail_of second

  module _ (asked : all_yes (join_questions first second names) ≡ true) where
    same_width : first_trail.width ≡ second_trail.width
    unfolding join_questions
    same_width = eqb-true first_trail.width second_trail.width (yes_first _ 20 0 _ asked)

    names_pass : names_right first_trail second_trail names ≡ true
    unfolding join_questions
    names_pass = yes_first _ 21 0 _ (yes_rest _ 20 0 _ asked)

    pub few_lines : line_count first_trail + line_count second_trail ≤ most_lines
    unfolding join_questions
    few_lines = leb-true _ _ (yes_first _ 22 0 _ (yes_rest _ 21 0 _ (yes_rest _ 20 0 _ asked)))

    pub can : Joinable first_trail second_trail names
    can = joinable first_trail second_trail names same_width names_pass

  all_pass_lem : first_trail.width ≡ second_trail.width → NamesRight first_trail second_trail names → line_count (joined_trail first second names) ≤ most_lines
      → all_yes (join_questions first second names) ≡ true
  unfolding join_questions
  all_pass_lem width right few =
      (yes_verdict {A = ℕ} _ 0 0
      (sym
      (comes
      (yes (eq-eqb first_trail.width second_trail.width width)
      (yes ((names_right_exactly first_trail second_trail names).1 right)
      (yes (le-leb (line_count first_trail + line_count second_trail) most_lines (omega (arith, joined_count first_trail second_trail names))) done)))))
      ).0

pub join_passes_exactly : JoinPassesExactly
join_passes_exactly first second names = (
  λ asked. (
    same_width first second names asked,
    (names_right_exactly (trail_of first) (trail_of second) names).0 (names_pass first second names asked),
    omega (arith, joined_count (trail_of first) (trail_of second) names, few_lines first second names asked),
  ),
  λ right. all_pass_lem first second names right.0 right.1 right.2,
)

-- ---- the joined sheet

module _ (first second names : List ℕ) (accepts : IsAccepted first) (accepts-second : IsAccepted second)
    (asked : all_yes (join_questions first second names) ≡ true) where
  abbrev a : Trail
  a = trail_of first

  abbrev b : Trail
  b = trail_of second

  good_a : WellFormed a
  good_a = accepted_well_formed Read first accepts

  good_b : WellFormed b
  good_b = accepted_well_formed Read second accepts-second

  joins : Joins a b names
  joins = joining_is_right a b names good_a good_b (same_width first second names asked) (names_pass first second names asked)

  first_sized : Sized (width_most (form_of first)) a
  unfolding trail_of
  first_sized = let sized = accepted_sized Read first accepts in record {
    width_most = (accepted_limited Read first accepts).width_most;
    inputs_most = sized.inputs_most;
    lines_most = sized.lines_most;
  }

  sized : Sized (width_most (form_of first)) (joined_trail first second names)
  sized = joined_sized a b names first_sized (few_lines first second names asked)

  encoded : Encoded (form_of first) (joined_trail first second names)
  encoded = encoding_is_right (form_of first) (joined_trail first second names) joins.well_formed sized

  says : trail_of (joined_sheet first second names) ≡ joined_trail first second names
  unfolding joined_sheet
  says = encoded.checked_trail

  is_accepted : IsAccepted (joined_sheet first second names)
  unfolding joined_sheet
  is_accepted = encoded.accepted

pub joined_sheets_are_right : JoinedSheetsAreRight
joined_sheets_are_right first second names one two asked =
    let said = says first second names one two asked in
    let both = joins first second names one two asked in
    let able = can first second names asked in
    let good-first = good_a first second names one two asked in
    let good-second = good_b first second names one two asked in
    let a = trail_of first in
    record {
      accepted = is_accepted first second names one two asked;
      trail = said;
      starts = λ x. ap (λ (t : Trail). is_start t x) said ∙ both.starts x;
      second_starts = both.second_starts;
      both_followed = λ x start. ap (λ (t : Trail). follows t x) said ∙ both.both_followed x start;
      lines = ap (λ (t : Trail). line_count t) said ∙ both.lines;
      first_reports = λ k l. ap (λ (t : Trail). line_report t k) said ∙ first_report able good-first good-second k l;
      second_reports = λ k l. ap (λ (t : Trail). line_report t (line_count a + k)) said ∙ second_report able good-first good-second k l;
    }
