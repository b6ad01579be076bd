use Prim.Native.Nat.{◌+◌, ◌*◌, ◌≤◌}
use native.Mathlib.Nat.{zero-add}
use native.Mathlib.Omega.{arith}
use mathlib.Core.Path.{◌≡◌, sym, ap, ◌∙◌, subst}
use lib.ListN.{length}
use Rattle.trail.specs.Trail.{line_count, line_at}
use Rattle.differential.specs.declared.Differential.{Differential}
use Rattle.differential.specs.Report.{report_of}
use Rattle.listed_lines.specs.Listed.{line_numbers}
use Rattle.sheet.specs.declared.Header.{Header}
use Rattle.sheet.specs.Fields.{trail_of}
use Rattle.sheet.proofs.TrailParts.{trail_lines}
use Rattle.trail_reports.specs.Lines.{differential_of, line_report}
use Rattle.trail_reports.specs.Totals.{range_totals, SmallReport}
use Rattle.trail_reports.proofs.ProperLines.{report_asks}
use Rattle.trail_reports.proofs.Demand2.{sheet_report_small}
use Rattle.trail_reports.proofs.RangeTotals.{totals_none, totals_small, SmallSums}
use Rattle.sheet_reports.proofs.Charging.{kept_none, repeat_passed, other_passed}
use Rattle.sheet_reports.proofs.sum_reports.Goals as goal
use Rattle.sheet_reports.proofs.sum_reports.Goals.{then-not-holds, else-not-holds}

pub loop-k-init : goal.loop-k-init
loop-k-init c = (totals_none _ 0, rw c.new-charged.ensures (kept_none _))

pub report-report-requires : goal.report-report-requires
report-report-requires c = report_asks c.args.sheet.now.read c.loop-k.k (omega arith) c.differential_at-differential.ensures

pub with_line-next-requires : goal.with_line-next-requires
unfolding line_report
with_line-next-requires c =
    let h = c.loop-k in
    let s = c.args.sheet.now.bytes.now in
    let read = c.args.sheet.now.read in
    let lines : line_count (trail_of s) ≡ c.args.sheet.now.header.lines = trail_lines s ∙ ap (λ (p : Header). p.lines) read.parts in
    let sums = subst (SmallSums h.k) (sym h.invariant.0) (totals_small (trail_of s) 0 h.k (λ i l. sheet_report_small s read.accepted (0 + i) (omega arith))) in
    let is = c.report-report.ensures ∙ ap report_of c.differential_at-differential.ensures in
    let here = subst SmallReport (sym is) (sheet_report_small s read.accepted h.k (omega arith)) in
    (omega (arith, sums.impossible), omega (arith, sums.weight), omega (arith, sums.chains), here)

pub loop-k-preserved : goal.loop-k-preserved
unfolding line_report differential_of
loop-k-preserved c =
    let h = c.loop-k in
    let t = trail_of c.args.sheet.now.bytes.now in
    let inside = c.loop-k-test.true in
    let asked = c.holds in
    let report = c.report-report.result in
    let is = c.differential_at-differential.ensures in
    let line = ap (λ (d : Differential). d.line) is ∙ ap (line_at t) (sym (zero-add h.k)) in
    let means = c.report-report.ensures ∙ ap report_of is ∙ ap (line_report t) (sym (zero-add h.k)) in
    elim c.if-not-holds.branch [
      | then-not-holds w ↦
          let room : line_numbers * h.charged.count + line_numbers ≤ length h.charged.numbers = omega (arith, h.invariant.1.few, c.args.sheet.now.read.limits.lines_most) in
          let step = other_passed h.invariant.1 h.invariant.0 line report means (sym asked.ensures ∙ w.if-not-holds.true) room w.charge.ensures.0 w.charge.ensures.1 in
          rw (w.charged-is, w.sums-is) (w.with_line-next.ensures ∙ step.0, step.1)
      | else-not-holds w ↦
          rw (w.charged-is, w.sums-is) (repeat_passed h.invariant.1 h.invariant.0 line report means (sym asked.ensures ∙ w.if-not-holds.false))
    ]

pub returns : goal.returns
returns c =
    let h = c.loop-k in
    let s = c.args.sheet.now.bytes.now in
    let lines : line_count (trail_of s) ≡ c.args.sheet.now.header.lines = trail_lines s ∙ ap (λ (p : Header). p.lines) c.args.sheet.now.read.parts in
    let e : h.k ≡ line_count (trail_of s) = omega arith in
    h.invariant.0 ∙ ap (range_totals (trail_of s) 0) e
