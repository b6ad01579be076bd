-- Demand 2 for sheets, locality, and the fields of the report buffer.
use Prim.Native.Nat.{ℕ, ◌<◌}
use native.Mathlib.Omega.{arith}
use mathlib.Core.Path.{◌≡◌, refl, sym, ap, ◌∙◌}
use mathlib.Core.List.{List}
use Rattle.trail.specs.Kinds.{Kind, kind_of, uses_second}
use Rattle.trail.specs.Trail.{line_count, line_at, difference_at}
use Rattle.trail.specs.declared.Line.{Line}
use Rattle.trail.proofs.Repeats.{equal_lines_lem}
use Rattle.differential.specs.Report.{Reporting, reporting, report_by, report_of}
use Rattle.differential.specs.Report.Reporting.{linear, two_words, constant, none}
use Rattle.differential.proofs.KindRows.{SameParts, Reads, row_reads}
use Rattle.differential.proofs.Formula.{fitting_constant}
use Rattle.differential.proofs.Demand2.{every_report_is_right}
use Rattle.sheet.specs.Fields.{trail_of}
use Rattle.sheet.specs.Questions.{IsAccepted}
use Rattle.sheet.specs.declared.Mode.TheVariants.{Read}
use Rattle.sheet.proofs.WellFormed.{accepted_well_formed, accepted_sized}
use Rattle.trail_reports.specs.Lines.{differential_of, line_report}
use Rattle.trail_reports.specs.Totals.{SmallReport}
use Rattle.trail_reports.specs.Demand2.{SheetReportsAreRight, SameLine, ReportsAreLocal, CopiesReportAlike, SheetFieldsFit}
use Rattle.trail_reports.proofs.ProperLines.{proper_line}
use Rattle.trail_reports.proofs.SmallReports.{small_report}

pub sheet_reports_are_right : SheetReportsAreRight
unfolding line_report
sheet_reports_are_right s accepted k l =
    every_report_is_right (differential_of (trail_of s) k) (proper_line (accepted_well_formed Read s accepted) k l)

-- a report reads no operand's number, and no second difference where the kind does not use it
pub reports_are_local : ReportsAreLocal
unfolding line_report differential_of report_of
reports_are_local t k r l same =
    at (reporting q) refl (row_reads q) ∙ ap (λ (n : ℕ). report_by (reporting (kind_of n)) (differential_of r l)) same.kind
  where
    q : Kind
    q = kind_of (line_at t k).kind

    other_how : reporting (kind_of (line_at r l).kind) ≡ reporting q
    other_how = ap (λ (n : ℕ). reporting (kind_of n)) (sym same.kind)

    parts : SameParts (uses_second q) (differential_of t k) (differential_of r l)
    parts = record {
      width = same.width;
      amount = same.amount;
      difference = same.difference;
      first = same.first;
      second = same.second;
    }

    at : (p : Reporting) → reporting q ≡ p → Reads p (uses_second q) → report_by p (differential_of t k) ≡ report_by p (differential_of r l)
    at (linear given) how reads = cc (reads (differential_of t k) (differential_of r l) parts)
    at (two_words sum) how reads = cc (reads (differential_of t k) (differential_of r l) parts)
    at constant how _ =
        cc (fitting_constant (differential_of t k) how, fitting_constant (differential_of r l) (other_how ∙ how))
    at none how _ = refl

pub copies_report_alike : CopiesReportAlike
copies_report_alike t i k e = reports_are_local t i t k same
  where
    copy : line_at t i ≡ line_at t k
    copy = equal_lines_lem (line_at t i) (line_at t k) e

    same : SameLine t i t k
    same = record {
      width = refl;
      kind = ap (λ (l : Line). l.kind) copy;
      amount = ap (λ (l : Line). l.amount) copy;
      constant = ap (λ (l : Line). l.constant) copy;
      difference = ap (λ (l : Line). l.difference) copy;
      first = ap (λ (l : Line). difference_at t l.first) copy;
      second = λ used. ap (λ (l : Line). difference_at t l.second) copy;
    }

-- the values of a line's report on an accepted sheet
pub sheet_report_small : (s : List ℕ) → IsAccepted s → (k : ℕ) → k < line_count (trail_of s) → SmallReport (line_report (trail_of s) k)
unfolding line_report differential_of
sheet_report_small s accepted k l =
    small_report (differential_of (trail_of s) k) (proper_line (accepted_well_formed Read s accepted) k l) (accepted_sized Read s accepted).width_most

pub sheet_fields_fit : SheetFieldsFit
sheet_fields_fit s accepted k l =
    let small = sheet_report_small s accepted k l in
    record { chains = omega (arith, small.chains); weight = omega (arith, small.weight); fitting = omega (arith, small.fitting) }
