-- The report part by part: part k is line k's line, part L the totals.
use Rattle.std.specs.Prelude.{ℕ, ◌+◌, ◌≤◌, ◌≡◌, cond, List, ltb, length}
use Rattle.words.specs.Below.{concat}
use Rattle.trail.specs.Trail.{Trail, line_count}
use Rattle.sheet.specs.Asking.Verdict.{accepted}
use Rattle.sheet.specs.Fields.{trail_of}
use Rattle.sheet.specs.Questions.{IsAccepted}
use Rattle.answers.specs.Calls.{Call, written}
use Rattle.text_parts.specs.Parts.{part_call}
use Rattle.trail_reports.specs.Lines.{line_report}
use Rattle.trail_reports.specs.Totals.{sheet_totals}
use Rattle.report_file.specs.Text.{line_text, totals_text, report_text}

unfoldable pub report_part : Trail → ℕ → List ℕ
report_part t part = cond (ltb part (line_count t)) (line_text part (line_report t part)) (totals_text (sheet_totals t))

-- what the call for one part comes to: the sheet's questions, 17 for the part, 18 for its very text
abbrev pub report_text_call : List ℕ → ℕ → List ℕ → Call ℕ
report_text_call s part out = part_call s part (report_part (trail_of s) part) out

-- The report is its parts in order.
abbrev pub ReportIsItsParts : Type 0
ReportIsItsParts = (t : Trail) → report_text t ≡ concat (line_count t + 1) (report_part t)

-- No part of an accepted sheet's report has more bytes than these: a buffer of this length is enough for each.
abbrev pub most_bytes : ℕ
most_bytes = 64

abbrev pub PartsAreWithin : Type 0
PartsAreWithin = (s : List ℕ) → IsAccepted s → (part : ℕ) → part ≤ line_count (trail_of s) → length (report_part (trail_of s) part) ≤ most_bytes

-- So with a buffer of this length 18 does not arise.
abbrev pub MostIsEnough : Type 0
MostIsEnough =
    (s : List ℕ) → IsAccepted s → (part : ℕ) → part ≤ line_count (trail_of s) → (out : List ℕ) → most_bytes ≤ length out
    → (report_text_call s part out).answer ≡ accepted (length (report_part (trail_of s) part))

-- The report as users take it away: what the call for one part, lent a buffer long enough for each answer, writes for parts 0 to L, in
-- that order, from the one sheet. `buffers part` is the buffer that was lent for a part.
unfoldable pub written_report : List ℕ → (ℕ → List ℕ) → List ℕ
written_report s buffers = concat (line_count (trail_of s) + 1) (λ part. written (report_text_call s part (buffers part)))

abbrev pub EveryReportIsWritten : Type 0
EveryReportIsWritten =
    (s : List ℕ) → IsAccepted s → (buffers : ℕ → List ℕ)
    → ((part : ℕ) → part ≤ line_count (trail_of s) → length (report_part (trail_of s) part) ≤ length (buffers part))
    → written_report s buffers ≡ report_text (trail_of s)
