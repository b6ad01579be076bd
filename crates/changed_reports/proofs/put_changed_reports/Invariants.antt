-- The invariant: the reports of the changed trail's lines that are passed are written.
use mathlib.Core.Path.{◌≡◌}
use lib.ListN.{length}
use Rattle.buffers.specs.Overwrite.{Wrote}
use Rattle.words.specs.Below.{concat}
use Rattle.trail.specs.Changing.{with_difference}
use Rattle.sheet.specs.Fields.{trail_of}
use Rattle.trail_reports.specs.Lines.{line_report}
use Rattle.report_buffer.specs.Buffer.{report_bytes}
use Rattle.changed_reports.proofs.put_changed_reports.Given as goal

abbrev pub invariant-loop-i : goal.invariant-loop-i
invariant-loop-i l =
    (length l.out ≡ length l.initial.out)
    × Wrote 0 (concat l.i (λ j. report_bytes (line_report (with_difference (trail_of l.sheet.bytes.now) l.k l.difference) j))) l.initial.out l.next l.out
