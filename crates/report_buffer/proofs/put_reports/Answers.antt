use native.Mathlib.Omega.{arith}
use mathlib.Core.Path.{◌≡◌, refl, sym, ap, ◌∙◌, subst}
use Rattle.buffers.specs.Overwrite.{Wrote}
use Rattle.trail.specs.Trail.{line_count}
use Rattle.differential.specs.Report.{Report}
use Rattle.sheet.specs.declared.Header.{Header}
use Rattle.sheet.specs.Fields.{trail_of}
use Rattle.sheet.proofs.TrailParts.{trail_lines}
use Rattle.trail_reports.specs.Lines.{line_report}
use Rattle.trail_reports.specs.Totals.{SmallReport}
use Rattle.report_buffer.specs.Buffer.{report_bytes, sheet_bytes}
use Rattle.trail_reports.proofs.Demand2.{sheet_report_small}
use Rattle.report_buffer.proofs.ReportBytes.{reports_none, reports_place, reports_next}
use Rattle.report_buffer.proofs.put_reports.Goals as goal

pub loop-k-init : goal.loop-k-init
loop-k-init c = (refl, reports_none (line_report (trail_of c.args.sheet.now.bytes.now)) _)

pub put_report-next-requires : goal.put_report-next-requires
put_report-next-requires c =
    let h = c.loop-k in
    let s = c.args.sheet.now.bytes.now in
    let read = c.args.sheet.now.read in
    let lines : line_count (trail_of s) ≡ c.args.sheet.now.header.lines = trail_lines s ∙ ap (λ (p : Header). p.lines) read.parts in
    let here = reports_place (line_report (trail_of s)) h.k h.invariant.1 in
    (omega arith, subst SmallReport (sym c.report_at.ensures) (sheet_report_small s read.accepted h.k (omega arith)))

pub loop-k-preserved : goal.loop-k-preserved
loop-k-preserved c =
    let h = c.loop-k in
    let put = c.put_report-next in
    let s = c.args.sheet.now.bytes.now in
    let written = subst (λ (r : Report). Wrote h.next (report_bytes r) h.out put.result put.new.out) c.report_at.ensures put.ensures in
    (put.auto.out ∙ h.invariant.0, reports_next (line_report (trail_of s)) h.k (omega arith) h.invariant.1 written)

pub returns : goal.returns
unfolding sheet_bytes
returns c =
    let h = c.loop-k in
    let s = c.args.sheet.now.bytes.now in
    let lines : line_count (trail_of s) ≡ c.args.sheet.now.header.lines = trail_lines s ∙ ap (λ (p : Header). p.lines) c.args.sheet.now.read.parts in
    let e : h.k ≡ line_count (trail_of s) = omega arith in
    rw e at h.invariant.1
