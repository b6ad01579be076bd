-- Joining keeps words XORed with themselves (document 02, W-205).
use Rattle.std.specs.Prelude.{ℕ, ◌+◌, ◌<◌, ◌≡◌, ◌↔◌, true, List}
use Rattle.trail.specs.Trail.{line_count}
use Rattle.sheet.specs.Asking.{all_yes}
use Rattle.sheet.specs.Fields.{trail_of}
use Rattle.sheet.specs.Questions.{IsAccepted}
use Rattle.sheet.specs.SelfXor.{SelfXorAt}
use Rattle.joined_sheets.specs.JoinedSheet.{join_questions, joined_sheet}

-- A line of the joined sheet is such a line exactly if the line that it came from is.
pub record SelfXorsKept (first second names : List ℕ) : Type 0 where
  pub of_first : (k : ℕ) → k < line_count (trail_of first) → SelfXorAt (joined_sheet first second names) k ↔ SelfXorAt first k
  pub of_second : (k : ℕ) → k < line_count (trail_of second)
      → SelfXorAt (joined_sheet first second names) (line_count (trail_of first) + k) ↔ SelfXorAt second k

-- for every two accepted sheets and every list of names that passes
abbrev pub JoiningKeepsSelfXors : Type 0
JoiningKeepsSelfXors =
    (first second names : List ℕ) → IsAccepted first → IsAccepted second
    → all_yes (join_questions first second names) ≡ true
    → SelfXorsKept first second names
