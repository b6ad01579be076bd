-- A line's part is the line of its report, the part behind the last line the totals. Each has room, since no part is longer.
use native.Mathlib.Omega.{arith}
use Rattle.sheet.specs.Fields.{trail_of}
use Rattle.report_file.proofs.Parts.{line_part, totals_part, line_fits, totals_fit}
use Rattle.report_text.proofs.put_report_part.Goals as goal

pub put_report-requires : goal.put_report-requires
put_report-requires c =
    line_fits c.args.sheet.now.bytes.now c.args.sheet.now.header c.args.sheet.now.read c.args.part (omega arith) c.report_at.ensures
    (omega arith)

pub returns-then-part-sheet : goal.returns-then-part-sheet
returns-then-part-sheet c =
    let part = line_part (trail_of c.args.sheet.now.bytes.now) c.args.part (omega (arith, c.args.sheet.now.read.lines)) in
    rw (part, ← c.report_at.ensures) c.put_report.ensures

pub put_totals-requires : goal.put_totals-requires
put_totals-requires c =
    totals_fit c.args.sheet.now.bytes.now c.args.sheet.now.header c.args.sheet.now.read c.sum_reports.ensures (omega arith)

pub returns : goal.returns
returns c =
    let part = totals_part (trail_of c.args.sheet.now.bytes.now) c.args.part (omega (arith, c.args.sheet.now.read.lines)) in
    rw (part, ← c.sum_reports.ensures) c.put_totals.ensures
