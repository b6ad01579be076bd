-- One stated difference changed (document 02, W-206), with no bytes.
use Rattle.std.specs.Prelude.{ℕ, ◌+◌, ◌^◌, ◌<◌, ◌≡◌, ◌≢◌, set}
use Rattle.trail.specs.declared.Line.{Line}
use Rattle.trail.specs.Trail.{Trail, input_count, line_count, line_at, difference_at}
use Rattle.trail.specs.WellFormed.{WellFormed}

-- a line with its stated difference replaced
abbrev pub stating : Line → ℕ → Line
stating l d = record {
  kind = l.kind;
  amount = l.amount;
  first = l.first;
  second = l.second;
  constant = l.constant;
  difference = d;
}

-- the trail with line k's stated difference replaced
abbrev pub with_difference : Trail → ℕ → ℕ → Trail
with_difference t k d = record {
  width = t.width;
  inputs = t.inputs;
  lines = set t.lines k (stating (line_at t k) d);
}

-- ---- what a change leaves

-- Line k's word has the new difference, and every other word its own; all lines but line k are as they were, and so is line k but for
-- what it states. Width and inputs are as they were, and the trail is well-formed again.
pub record Changed (t : Trail) (k d : ℕ) : Type 0 where
  pub well_formed : WellFormed (with_difference t k d)
  pub width : (with_difference t k d).width ≡ t.width
  pub inputs : (with_difference t k d).inputs ≡ t.inputs
  pub lines : line_count (with_difference t k d) ≡ line_count t
  pub line : line_at (with_difference t k d) k ≡ stating (line_at t k) d
  pub other_lines : (i : ℕ) → i ≢ k → line_at (with_difference t k d) i ≡ line_at t i
  pub difference : difference_at (with_difference t k d) (input_count t + k) ≡ d
  pub other_differences : (j : ℕ) → j ≢ input_count t + k → difference_at (with_difference t k d) j ≡ difference_at t j

-- for every line of a well-formed trail, and every difference below 2 ^ n
abbrev pub ChangingIsRight : Type 0
ChangingIsRight = (t : Trail) (k d : ℕ) → WellFormed t → k < line_count t → d < 2 ^ t.width → Changed t k d

-- The difference that a line states already changes nothing.
abbrev pub SameAgain : Type 0
SameAgain = (t : Trail) (k : ℕ) → with_difference t k (line_at t k).difference ≡ t
