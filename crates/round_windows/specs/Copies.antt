-- The nearest earlier copy of a line, by which its repeats are told in every window at once (document 02, W-209).
use Rattle.std.specs.Prelude.{ℕ, ◌+◌, ◌<◌, ◌≡◌, ltb}
use Rattle.round_windows.specs.Last.{past_last}
use Rattle.trail.specs.Trail.{Trail, line_at}
use Rattle.trail.specs.Repeats.{equal_lines, is_repeat}

-- one more than the number of line k's nearest earlier copy; 0 where it has none
unfoldable pub nearest_copy : Trail → ℕ → ℕ
nearest_copy t k = past_last k (λ i. equal_lines (line_at t i) (line_at t k))

-- A line repeats inside a window exactly if its nearest earlier copy lies in it: that copy is line `from` or a later one.
abbrev pub RepeatsByNearest : Type 0
RepeatsByNearest = (t : Trail) (from k : ℕ) → is_repeat t from k ≡ ltb from (nearest_copy t (from + k))
