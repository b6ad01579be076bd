-- The lines' invariant: the words made are those of the two runs, and the lines passed follow. The bits': no bit passed disagrees.
use Prim.Native.Nat.{ℕ, ◌+◌, ◌-◌, ◌≤◌, ◌<◌}
use mathlib.Core.Path.{◌≡◌}
use mathlib.Core.Bool.{true, false}
use Rattle.words.specs.Words.{bit}
use Rattle.trail.specs.Trail.{input_count}
use Rattle.trail.specs.Runs.{partner, line_follows}
use Rattle.sheet.specs.Fields.{trail_of}
use Rattle.sheet_runs.specs.Facts.{Made}
use Rattle.sheet_runs.proofs.lines.run_lines.Given as goal

abbrev pub invariant-bits : goal.invariant-bits
invariant-bits l = (j : ℕ) → j < l.i → bit l.apart j ≡ false

abbrev pub invariant-lines : goal.invariant-lines
invariant-lines l =
    (l.k ≤ l.lines)
    × Made (trail_of l.sheet.bytes.now) l.start (input_count (trail_of l.sheet.bytes.now) + l.k) l.first
    × Made (trail_of l.sheet.bytes.now) (partner (trail_of l.sheet.bytes.now) l.start) (input_count (trail_of l.sheet.bytes.now) + l.k) l.second
    × ((i : ℕ) → i < l.k → line_follows (trail_of l.sheet.bytes.now) l.start i ≡ true)

abbrev pub decreases-lines : goal.decreases-lines
decreases-lines l = l.lines - l.k
