-- What the answers of the calls on reports mean: document 01's number and place for a refusal, the values asked for else.
use Rattle.std.specs.Prelude.{ℕ, List, ◌++◌, length, Result}
use Rattle.sheet.specs.Asking.{Question, Verdict}
use Rattle.sheet.specs.Fields.{header_of, trail_of}
use Rattle.sheet.specs.Questions.{questions, line_number_questions, room_questions}
use Rattle.sheet.specs.declared.Mode.TheVariants.{Read}
use Rattle.answers.specs.Answers.{answer_means}
use Rattle.answers.specs.Calls.{Call, writing}
use Rattle.answers.specs.declared.Refusal.{Refusal}
use Rattle.differential.specs.Report.{Report, report_means}
use Rattle.differential.specs.declared.LineReport.{LineReport}
use Rattle.trail_reports.specs.Totals.{Sums, sums_of}
use Rattle.trail_reports.specs.declared.Totals.{Totals}
use Rattle.report_buffer.specs.Buffer.{sheet_bytes}

abbrev pub line_means : Result LineReport Refusal → Verdict Report
line_means = answer_means report_means

abbrev pub totals_means : Result Totals Refusal → Verdict Sums
totals_means = answer_means sums_of

-- the number of bytes written
abbrev pub buffer_means : Result ℕ Refusal → Verdict ℕ
buffer_means = answer_means (λ n. n)

-- the questions of the call for one line's report
abbrev pub line_asks : List ℕ → ℕ → List Question
line_asks s k = questions Read s ++ line_number_questions (header_of s) k

-- ---- the report buffer

-- the reports of all lines: 18 for this very answer
abbrev pub reports_call : List ℕ → List ℕ → Call ℕ
reports_call s out =
    writing (questions Read s ++ room_questions (length (sheet_bytes (trail_of s))) (length out)) (sheet_bytes (trail_of s)) out
