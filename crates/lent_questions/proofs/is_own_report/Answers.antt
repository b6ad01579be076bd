-- The sheet's own report is made where the lent one has its length, and compared.
use native.Mathlib.Omega.{arith}
use Prim.Native.Nat.{ℕ}
use mathlib.Core.Path.{sym, subst, ◌∙◌}
use mathlib.Core.Logic.{◌≢◌}
use lib.ListN.{length}
use Rattle.std.proofs.lemmas.Grind.{common_steps}
use Rattle.sheet.specs.Fields.{trail_of}
use Rattle.report_buffer.specs.Buffer.{sheet_bytes}
use Rattle.lent_questions.proofs.Comparing.{other_length, own_compared, report_length}
use Rattle.lent_questions.proofs.is_own_report.Goals as goal

pub returns-then-report-need : goal.returns-then-report-need
returns-then-report-need c =
    let a = c.args in
    other_length (sheet_bytes (trail_of a.sheet.now.bytes.now)) a.report.now (subst (λ (n : ℕ). length a.report.now ≢ n) (sym (report_length c.args.sheet.now.read)) c.if-report-need.true)

pub slice_bounds-own-end : goal.slice_bounds-own-end
slice_bounds-own-end c = omega (arith, report_length c.args.sheet.now.read, c.args.sheet.now.read.limits.lines_most)

pub slice_bounds-eq-end : goal.slice_bounds-eq-end
slice_bounds-eq-end c = grind (arith, common_steps, report_length c.args.sheet.now.read, c.args.sheet.now.read.limits.lines_most)

pub returns : goal.returns
returns c =
    let a = c.args in
    let read = c.args.sheet.now.read in
    c.eq.ensures
    ∙ own_compared (sheet_bytes (trail_of a.sheet.now.bytes.now)) a.report.now (omega (arith, report_length read, read.limits.lines_most)) c.put_reports-end.ensures
