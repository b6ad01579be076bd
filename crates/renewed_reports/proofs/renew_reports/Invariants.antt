-- The invariant: what the lines of the word that are still to come would leave is the whole.
use Prim.Native.Nat.{◌+◌}
use mathlib.Core.Path.{◌≡◌}
use lib.ListN.{length, drop}
use Rattle.trail.specs.Trail.{input_count}
use Rattle.sheet.specs.Fields.{trail_of}
use Rattle.sheet_indexes.specs.Users.{users}
use Rattle.indexed_changes.specs.Renewed.{with_reports}
use Rattle.renewed_reports.proofs.renew_reports.Given as goal

abbrev pub invariant-loop-line : goal.invariant-loop-line
invariant-loop-line l =
    (length l.report ≡ length l.initial.report)
    × (with_reports (trail_of l.sheet.bytes.now) (drop l.line-index (users (trail_of l.sheet.bytes.now) (input_count (trail_of l.sheet.bytes.now) + l.k))) l.report
    ≡ with_reports (trail_of l.sheet.bytes.now) (users (trail_of l.sheet.bytes.now) (input_count (trail_of l.sheet.bytes.now) + l.k)) l.initial.report)
