-- The nearest earlier copy tells in which windows a line repeats.
use mathlib.Core.Path.{◌≡◌}
use Prim.Native.Nat.{ℕ, ◌+◌}
use Rattle.round_windows.proofs.Last.{last_from}
use Rattle.trail.specs.Trail.{line_at}
use Rattle.trail.specs.Repeats.{equal_lines, is_repeat}
use Rattle.round_windows.specs.Copies.{nearest_copy, RepeatsByNearest}

pub repeats_by_nearest : RepeatsByNearest
unfolding is_repeat nearest_copy
repeats_by_nearest t from k = last_from from k (λ i. equal_lines (line_at t i) (line_at t (from + k)))
