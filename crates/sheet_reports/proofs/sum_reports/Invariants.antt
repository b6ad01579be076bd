-- The loop's invariant: the sums are the totals of the lines passed, and the list stands for those of them that cost something.
use mathlib.Core.Path.{◌≡◌}
use Rattle.sheet.specs.Fields.{trail_of}
use Rattle.trail_reports.specs.Totals.{sums_of, range_totals}
use Rattle.sheet_reports.proofs.Charging.{Kept}
use Rattle.sheet_reports.proofs.sum_reports.Given as goal

abbrev pub invariant-loop-k : goal.invariant-loop-k
invariant-loop-k l =
    (sums_of l.sums ≡ range_totals (trail_of l.sheet.bytes.now) 0 l.k) × Kept (trail_of l.sheet.bytes.now) 0 l.k l.charged.numbers l.charged.count
