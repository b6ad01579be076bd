-- Rounds, and the windows of rounds in a row (document 02, W-209).
use Rattle.std.specs.Prelude.{ℕ, ◌+◌, ◌-◌, ◌<◌, ◌≤◌, ◌≡◌, ◌↔◌, Bool, true, ◌&&◌, List, eqb, ltb, length, get_or}
use Rattle.words.specs.Below.{all}
use Rattle.trail.specs.Trail.{Trail, line_count}

-- the line numbers at which rounds start: number i
abbrev pub start : List ℕ → ℕ → ℕ
start starts i = get_or starts i 0

-- ---- the starts

-- each is above the one before
unfoldable pub rise : List ℕ → Bool
rise starts = all (length starts - 1) (λ i. ltb (start starts i) (start starts (i + 1)))

-- they begin with 0; an empty list does not
unfoldable pub begin_with_zero : List ℕ → Bool
begin_with_zero starts = ltb 0 (length starts) && eqb (start starts 0) 0

-- none passes the last line
unfoldable pub end_inside : Trail → List ℕ → Bool
end_inside t starts = all (length starts) (λ i. ltb (start starts i) (line_count t))

unfoldable pub starts_right : Trail → List ℕ → Bool
starts_right t starts = rise starts && (begin_with_zero starts && end_inside t starts)

-- The same, sentence by sentence: the test is passed exactly where they hold.
pub record StartsRight (t : Trail) (starts : List ℕ) : Type 0 where
  pub some : 0 < length starts
  pub first : start starts 0 ≡ 0
  pub rising : (i j : ℕ) → i < j → j < length starts → start starts i < start starts j
  pub inside : (i : ℕ) → i < length starts → start starts i < line_count t

abbrev pub StartsExactly : Type 0
StartsExactly = (t : Trail) (starts : List ℕ) → (starts_right t starts ≡ true) ↔ StartsRight t starts

-- ---- the rounds

-- Round i begins at its start; behind the last round is the end of the sheet.
abbrev pub round_line : Trail → List ℕ → ℕ → ℕ
round_line t starts i = get_or starts i (line_count t)

-- the lines of a number of rounds from round i on: up to the line where the round behind them begins
abbrev pub window_lines : Trail → List ℕ → ℕ → ℕ → ℕ
window_lines t starts r i = round_line t starts (i + r) - round_line t starts i

-- how many windows of r rounds in a row there are
unfoldable pub window_count : List ℕ → ℕ → ℕ
window_count starts r = length starts - r + 1

-- Rounds take all lines, each at least one: the first begins with line 0, each where the one before it ends, and the last ends with
-- the sheet.
pub record RoundsRight (t : Trail) (starts : List ℕ) : Type 0 where
  pub first : round_line t starts 0 ≡ 0
  pub at_its_start : (i : ℕ) → i < length starts → round_line t starts i ≡ start starts i
  pub some_line : (i : ℕ) → i < length starts → round_line t starts i < round_line t starts (i + 1)
  pub last : round_line t starts (length starts) ≡ line_count t

abbrev pub RoundsAreRight : Type 0
RoundsAreRight = (t : Trail) (starts : List ℕ) → StartsRight t starts → RoundsRight t starts

-- There is a window from round i on exactly if r rounds from there are rounds of the sheet. Its lines are those of its rounds: it takes
-- one at least, and none past the last.
pub record WindowRight (t : Trail) (starts : List ℕ) (r i : ℕ) : Type 0 where
  pub some_line : 0 < window_lines t starts r i
  pub inside : round_line t starts i + window_lines t starts r i ≤ line_count t
  pub up_to_the_next : i + r < length starts → round_line t starts i + window_lines t starts r i ≡ start starts (i + r)
  pub up_to_the_end : i + r ≡ length starts → round_line t starts i + window_lines t starts r i ≡ line_count t

pub record WindowsOf (t : Trail) (starts : List ℕ) (r : ℕ) : Type 0 where
  pub exactly : (i : ℕ) → (i < window_count starts r) ↔ (i + r ≤ length starts)
  pub each : (i : ℕ) → i < window_count starts r → WindowRight t starts r i

abbrev pub WindowsAreRight : Type 0
WindowsAreRight =
    (t : Trail) (starts : List ℕ) (r : ℕ) → StartsRight t starts → 1 ≤ r → r ≤ length starts → WindowsOf t starts r
