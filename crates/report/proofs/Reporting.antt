-- The room that the calls ask for, and a line's report in it: rules for `search` in the calls.
use Prim.Native.Nat.{ℕ, ◌≤◌, ◌<◌}
use native.Mathlib.Omega.{arith}
use mathlib.Core.Path.{◌≡◌, sym, ap, subst, ◌∙◌}
use mathlib.Core.Bool.{true, false}
use mathlib.Core.List.{List}
use borrow.Author.Tests.{le-leb, lt-leb}
use lib.Dec.{leb}
use lib.ListN.{length}
use Rattle.trail.specs.Trail.{line_count}
use Rattle.differential.specs.Report.{Report}
use Rattle.sheet.specs.Asking.{verdict}
use Rattle.sheet.specs.Asking.Verdict.{accepted}
use Rattle.sheet.specs.Fields.{header_of, trail_of}
use Rattle.sheet.specs.Questions.{questions}
use Rattle.sheet.specs.declared.Header.{Header}
use Rattle.sheet.specs.declared.Mode.TheVariants.{Read}
use Rattle.answers.proofs.Calling.{was_read, calling}
use Rattle.trail_reports.specs.Lines.{line_report}
use Rattle.trail_reports.specs.Totals.{SmallReport}
use Rattle.trail_reports.proofs.Demand2.{sheet_report_small}
use Rattle.report_buffer.specs.Buffer.{sheet_bytes, bytes_needed}
use Rattle.report_buffer.proofs.ReportBytes.{length_reports}

module _ (s : List ℕ) {h : Header} (read : accepted h ≡ verdict (questions Read s) (header_of s)) where
  needed : length (sheet_bytes (trail_of s)) ≡ bytes_needed h.lines
  unfolding sheet_bytes
  needed =
      length_reports (line_report (trail_of s)) (line_count (trail_of s)) ∙ ap bytes_needed (was_read s read).lines

  pub reports_short : (room : ℕ) → room < bytes_needed h.lines → leb (length (sheet_bytes (trail_of s))) room ≡ false
  reports_short room l = lt-leb (length (sheet_bytes (trail_of s))) room (omega (arith, needed))

  pub reports_long : (room : ℕ) → bytes_needed h.lines ≤ room → leb (length (sheet_bytes (trail_of s))) room ≡ true
  reports_long room l = le-leb (length (sheet_bytes (trail_of s))) room (omega (arith, needed))

  -- a line's report fits its bytes
  pub line_small : (k : ℕ) → k < h.lines → {m : Report} → m ≡ line_report (trail_of s) k → SmallReport m
  line_small k l e =
      let w = was_read s read in
      subst SmallReport (sym e) (sheet_report_small s w.accepted k (omega (arith, w.lines)))

pub ruleset reporting = (calling, reports_short, reports_long, line_small)
