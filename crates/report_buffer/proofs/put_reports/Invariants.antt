-- The invariant: the reports of the lines passed are written.
use mathlib.Core.Path.{◌≡◌}
use lib.ListN.{length}
use Rattle.buffers.specs.Overwrite.{Wrote}
use Rattle.words.specs.Below.{concat}
use Rattle.sheet.specs.Fields.{trail_of}
use Rattle.trail_reports.specs.Lines.{line_report}
use Rattle.report_buffer.specs.Buffer.{report_bytes}
use Rattle.report_buffer.proofs.put_reports.Given as goal

abbrev pub invariant-loop-k : goal.invariant-loop-k
invariant-loop-k l =
    (length l.out ≡ length l.initial.out) × Wrote 0 (concat l.k (λ i. report_bytes (line_report (trail_of l.sheet.bytes.now) i))) l.initial.out l.next l.out
