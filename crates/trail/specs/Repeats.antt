-- Lines that repeat earlier ones (document 02, W-202).
use Rattle.std.specs.Prelude.{ℕ, ◌+◌, ◌<◌, ◌≡◌, ◌↔◌, Bool, true, not, ◌&&◌, ◌||◌, List, eqb}
use Rattle.words.specs.Below.{any, all, count}
use Rattle.trail.specs.declared.Line.{Line}
use Rattle.trail.specs.Trail.{Trail, line_count, line_at}
use Rattle.trail.specs.Runs.{is_start, line_follows, follows}
use Rattle.trail.specs.WellFormed.{WellFormed}

-- kind, amount, operands in order, constant and stated difference are equal
unfoldable pub equal_lines : Line → Line → Bool
equal_lines l r =
    eqb l.kind r.kind
    && (eqb l.amount r.amount
    && (eqb l.first r.first
    && (eqb l.second r.second
    && (eqb l.constant r.constant
    && eqb l.difference r.difference))))

-- These are all that a line has: equal lines are the same line, operands in order, and no others are equal.
abbrev pub EqualExactly : Type 0
EqualExactly = (l r : Line) → (equal_lines l r ≡ true) ↔ (l ≡ r)

-- Of a range of lines that begins with line `from`: whether line from + k repeats an earlier one of the range.
unfoldable pub is_repeat : Trail → ℕ → ℕ → Bool
is_repeat t from k = any k (λ i. equal_lines (line_at t (from + i)) (line_at t (from + k)))

-- ---- why a repeat costs nothing

-- For every starting value, if the earlier line's two results differ by its stated difference, so do the repeat's.
abbrev pub CopiesFollow : Type 0
CopiesFollow =
    (t : Trail) → WellFormed t → (x : List ℕ) → is_start t x ≡ true → (i k : ℕ) → i < line_count t → k < line_count t
    → equal_lines (line_at t i) (line_at t k) ≡ true → line_follows t x i ≡ true → line_follows t x k ≡ true

-- So a starting value follows the trail exactly if it follows at each line that is no repeat.
abbrev pub FollowsOnce : Type 0
FollowsOnce =
    (t : Trail) → WellFormed t → (x : List ℕ) → is_start t x ≡ true
    → follows t x ≡ all (line_count t) (λ k. is_repeat t 0 k || line_follows t x k)

-- ---- a sum done twice costs once

-- Of all lines of a range that are equal to one of its lines, exactly one is no repeat.
abbrev pub OneIsNoRepeat : Type 0
OneIsNoRepeat =
    (t : Trail) (from lines k : ℕ) → k < lines
    → count lines (λ i. equal_lines (line_at t (from + i)) (line_at t (from + k)) && not (is_repeat t from i)) ≡ 1
