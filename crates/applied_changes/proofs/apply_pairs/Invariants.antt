-- The invariant: the first i pairs are applied or skipped, and replied to.
use mathlib.Core.Path.{◌≡◌}
use lib.ListN.{length}
use Rattle.applied_changes.proofs.Replying.{Replied}
use Rattle.applied_changes.proofs.apply_pairs.Given as goal

abbrev pub invariant-loop-i : goal.invariant-loop-i
invariant-loop-i l =
    (length l.sheet ≡ length l.initial.sheet) × (length l.replies ≡ length l.initial.replies) × Replied l.initial.sheet l.pairs l.initial.replies l.i l.sheet l.replies
