-- A match tells which report was given. What holds of the one that it found holds of the one that was given, and the other way.
use mathlib.Core.Path.{◌≡◌, sym, subst}
use Rattle.differential.specs.Report.{report_means}
use Rattle.differential.specs.declared.LineReport.{LineReport}
use Rattle.trail_reports.specs.Totals.{Sums, with_report, SmallReport}

module _ {given found : LineReport} (told : given ≡ found) where
  pub small_found : SmallReport (report_means given) → SmallReport (report_means found)
  small_found = subst (λ (r : LineReport). SmallReport (report_means r)) told

  pub sums_given : (s : Sums) {t : Sums} → t ≡ with_report s (report_means found) → t ≡ with_report s (report_means given)
  sums_given s {t} = subst (λ (r : LineReport). t ≡ with_report s (report_means r)) (sym told)
