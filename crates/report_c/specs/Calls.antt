-- What the calls on reports as C takes them come to, those that are not as they stand in `report` (document 01, "Line reports").
use Rattle.std.specs.Prelude.{ℕ, List, [], ◌∷◌, ◌++◌, length}
use Rattle.sheet.specs.Fields.{header_of, trail_of}
use Rattle.sheet.specs.Questions.{questions, line_number_questions, room_questions}
use Rattle.sheet.specs.declared.Mode.TheVariants.{Read}
use Rattle.answers.specs.Calls.{Call, writing}
use Rattle.trail_reports.specs.Lines.{line_report}
use Rattle.trail_reports.specs.Totals.{Sums, sheet_totals}
use Rattle.report_buffer.specs.Buffer.{report_size, report_bytes}

-- one line's bytes of the report buffer: 17, then 18 for them
abbrev pub line_report_call : List ℕ → ℕ → List ℕ → Call ℕ
line_report_call s k out =
    writing (questions Read s ++ (line_number_questions (header_of s) k ++ room_questions report_size (length out)))
    (report_bytes (line_report (trail_of s) k)) out

-- the totals' numbers: impossible lines; weight in sixteenths; chains
abbrev pub totals_numbers : Sums → List ℕ
totals_numbers t = t.impossible ∷ t.weight ∷ t.chains ∷ []

-- 18 for three numbers
abbrev pub totals_call : List ℕ → List ℕ → Call ℕ
totals_call s out =
    writing (questions Read s ++ room_questions 3 (length out)) (totals_numbers (sheet_totals (trail_of s))) out
