-- What is true of every run of a line that the code holds.
use Rattle.std.specs.Prelude.{ℕ, ◌≤◌, ◌<◌, ◌≡◌}
use Rattle.trail.specs.WellFormed.{WellFormedLine, most_words}
use Rattle.trail.specs.declared.Line.{Line}
use Rattle.clause_lists.specs.Limits.{most_variables}

-- the run is that of a well-formed line of at most 64 bits, its word and the variables before its carries are within a trail's
-- limits, and of a word named twice both differences are the same
pub record ProperRun (width word : ℕ) (line : Line) (first second carries : ℕ) : Type 0 where
  pub width_least : 2 ≤ width
  pub width_most : width ≤ 64
  pub word_most : word < most_words
  pub carries_most : carries ≤ most_variables width
  pub line_right : WellFormedLine width word line
  pub alike : line.first ≡ line.second → first ≡ second
