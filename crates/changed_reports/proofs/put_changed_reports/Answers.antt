use native.Mathlib.Omega.{arith}
use mathlib.Core.Path.{◌≡◌, refl, ap, ◌∙◌, subst}
use Rattle.buffers.specs.Overwrite.{Wrote}
use Rattle.trail.specs.Trail.{line_count}
use Rattle.trail.specs.Changing.{with_difference}
use Rattle.trail.proofs.Changed.{changed_count}
use Rattle.differential.specs.Report.{Report, report_of}
use Rattle.sheet.specs.Fields.{trail_of}
use Rattle.trail_reports.specs.Lines.{line_report}
use Rattle.report_buffer.specs.Buffer.{report_bytes, sheet_bytes}
use Rattle.report_buffer.proofs.ReportBytes.{reports_none, reports_place, reports_next}
use Rattle.changed_reports.proofs.Differentials.{changed_asks, changed_small}
use Rattle.changed_reports.proofs.put_changed_reports.Goals as goal

pub loop-i-init : goal.loop-i-init
loop-i-init c =
    let a = c.args in
    (refl, reports_none (line_report (with_difference (trail_of a.sheet.now.bytes.now) a.k a.difference)) _)

pub report-requires : goal.report-requires
report-requires c =
    let a = c.args in
    changed_asks c.args.sheet.now.read a.k a.difference c.requires.0 c.requires.1 c.loop-i.i (omega arith) c.changed_differential-differential.ensures

pub put_report-next-requires : goal.put_report-next-requires
unfolding line_report
put_report-next-requires c =
    let a = c.args in
    let h = c.loop-i in
    let here = reports_place (line_report (with_difference (trail_of a.sheet.now.bytes.now) a.k a.difference)) h.i h.invariant.1 in (
      omega arith,
      changed_small c.args.sheet.now.read a.k a.difference c.requires.0 c.requires.1 h.i (omega arith)
          (c.report.ensures ∙ ap report_of c.changed_differential-differential.ensures),
    )

pub loop-i-preserved : goal.loop-i-preserved
unfolding line_report
loop-i-preserved c =
    let a = c.args in
    let h = c.loop-i in
    let put = c.put_report-next in
    let is = c.report.ensures ∙ ap report_of c.changed_differential-differential.ensures in
    let written = subst (λ (r : Report). Wrote h.next (report_bytes r) h.out put.result put.new.out) is put.ensures in
    (put.auto.out ∙ h.invariant.0, reports_next (line_report (with_difference (trail_of a.sheet.now.bytes.now) a.k a.difference)) h.i (omega arith) h.invariant.1 written)

pub returns : goal.returns
unfolding sheet_bytes
returns c =
    let h = c.loop-i in
    let a = c.args in
    let t = with_difference (trail_of a.sheet.now.bytes.now) a.k a.difference in
    let e : h.i ≡ line_count t = omega (arith, changed_count (trail_of a.sheet.now.bytes.now) a.k a.difference, c.args.sheet.now.read.lines) in
    rw e at h.invariant.1
