-- What the calls that write answer, of every sheet, line and buffer: 17, 18 and 19 after the reading, in their order, place 0
-- (document 01, "Questions, in order"). Those for texts and for joining stand in text_parts and in joined_sheets, those for a change,
-- a list of changes and a trial in changed_sheets, in change_lists and in tried_changes, those for the index and for a change lent
-- index and report in sheet_indexes and in indexed_changes.
use Rattle.std.specs.Prelude.{ℕ, ◌≤◌, ◌<◌, ◌≡◌, false, List, [], ◌∷◌, length, ℤ}
use Rattle.buffers.specs.Overwrite.{overwrite}
use Rattle.trail.specs.Runs.{is_start}
use Rattle.sheet.specs.Asking.{verdict}
use Rattle.sheet.specs.Asking.Verdict.{accepted, refused}
use Rattle.sheet.specs.Fields.{header_of, trail_of}
use Rattle.sheet.specs.Questions.{questions, IsAccepted}
use Rattle.sheet.specs.declared.Mode.TheVariants.{Read}
use Rattle.answers.specs.Calls.{Call}
use Rattle.trail_reports.specs.Totals.{sheet_totals}
use Rattle.clause_lists.specs.Variables.{variables}
use Rattle.clause_lists.specs.Lists.{line_list, clause_count}
use Rattle.report_buffer.specs.Buffer.{sheet_bytes}
use Rattle.report.specs.Answers.{reports_call}
use Rattle.report_c.specs.Calls.{line_report_call, totals_call}
use Rattle.runs_c.specs.Calls.{outcome_call}
use Rattle.clauses.specs.Answers.{list_call}
use Rattle.clauses_c.specs.Calls.{counts_call}

-- A sheet that reading refuses is refused so, whatever else the call asks; and a refusal leaves the buffer as it was.
pub record OnSheet {A : Type 0} (call : List ℕ → List A → Call A) : Type 0 where
  pub by_reading : (s : List ℕ) (out : List A) (number place : ℕ) → verdict (questions Read s) (header_of s) ≡ refused number place
      → (call s out).answer ≡ refused number place
  pub unwritten : (s : List ℕ) (out : List A) (number place : ℕ) → (call s out).answer ≡ refused number place → (call s out).buffer ≡ out

-- of a sheet that reading accepts
pub record LineReportAnswers (s : List ℕ) (k : ℕ) (out : List ℕ) : Type 0 where
  pub past_the_last : (header_of s).lines ≤ k → (line_report_call s k out).answer ≡ refused 17 0
  pub too_short : k < (header_of s).lines → length out < 16 → (line_report_call s k out).answer ≡ refused 18 0

pub record ReportsAnswers (s out : List ℕ) : Type 0 where
  pub too_short : length out < length (sheet_bytes (trail_of s)) → (reports_call s out).answer ≡ refused 18 0

-- impossible lines, weight, chains
pub record TotalsAnswers (s out : List ℕ) : Type 0 where
  pub too_short : length out < 3 → (totals_call s out).answer ≡ refused 18 0
  pub numbers : 3 ≤ length out → (totals_call s out).buffer
      ≡ overwrite 0 ((sheet_totals (trail_of s)).impossible ∷ (sheet_totals (trail_of s)).weight ∷ (sheet_totals (trail_of s)).chains ∷ []) out

pub record RunsAnswers (s x out : List ℕ) : Type 0 where
  pub too_short : length out < 3 → (outcome_call s x out).answer ≡ refused 18 0
  pub no_start : 3 ≤ length out → is_start (trail_of s) x ≡ false → (outcome_call s x out).answer ≡ refused 19 0

-- variables, clauses
pub record CountsAnswers (s out : List ℕ) : Type 0 where
  pub too_short : length out < 2 → (counts_call s out).answer ≡ refused 18 0
  pub numbers : 2 ≤ length out → (counts_call s out).buffer ≡ overwrite 0 (variables (trail_of s) ∷ clause_count (trail_of s) ∷ []) out

pub record ListAnswers (s : List ℕ) (k : ℕ) (out : List ℤ) : Type 0 where
  pub past_the_last : (header_of s).lines ≤ k → (list_call s k out).answer ≡ refused 17 0
  pub too_short : k < (header_of s).lines → length out < length (line_list (trail_of s) k) → (list_call s k out).answer ≡ refused 18 0

pub record CallsAnswer : Type 0 where
  pub line_report_on : (k : ℕ) → OnSheet (λ s out. line_report_call s k out)
  pub reports_on : OnSheet reports_call
  pub totals_on : OnSheet totals_call
  pub two_runs_on : (x : List ℕ) → OnSheet (λ s out. outcome_call s x out)
  pub counts_on : OnSheet counts_call
  pub line_list_on : (k : ℕ) → OnSheet (λ s out. list_call s k out)
  pub line_report : (s : List ℕ) → IsAccepted s → (k : ℕ) (out : List ℕ) → LineReportAnswers s k out
  pub reports : (s : List ℕ) → IsAccepted s → (out : List ℕ) → ReportsAnswers s out
  pub totals : (s : List ℕ) → IsAccepted s → (out : List ℕ) → TotalsAnswers s out
  pub two_runs : (s : List ℕ) → IsAccepted s → (x out : List ℕ) → RunsAnswers s x out
  pub counts : (s : List ℕ) → IsAccepted s → (out : List ℕ) → CountsAnswers s out
  pub line_list : (s : List ℕ) → IsAccepted s → (k : ℕ) (out : List ℤ) → ListAnswers s k out
