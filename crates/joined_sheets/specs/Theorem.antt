-- What a joined sheet is (document 02, W-203).
use Rattle.std.specs.Prelude.{ℕ, ◌+◌, ◌<◌, ◌≤◌, ◌≡◌, ◌↔◌, true, ◌&&◌, List}
use Rattle.trail.specs.Trail.{line_count}
use Rattle.trail.specs.Runs.{is_start, follows}
use Rattle.trail.specs.WellFormed.{most_lines}
use Rattle.trail.specs.Joining.{NamesRight, named_words}
use Rattle.sheet.specs.Asking.{all_yes}
use Rattle.sheet.specs.Fields.{trail_of}
use Rattle.sheet.specs.Questions.{IsAccepted}
use Rattle.trail_reports.specs.Lines.{line_report}
use Rattle.joined_sheets.specs.JoinedSheet.{join_questions, joined_trail, joined_sheet}

-- The questions are passed exactly where the widths are the same, the list of names is right, and the joined trail has at most 248
-- lines: there is no other way to be refused.
abbrev pub JoinPassesExactly : Type 0
JoinPassesExactly =
    (first second names : List ℕ)
    → (all_yes (join_questions first second names) ≡ true)
    ↔ (((trail_of first).width ≡ (trail_of second).width) × NamesRight (trail_of first) (trail_of second) names × (line_count (joined_trail first second names) ≤ most_lines))

-- The written bytes are an accepted sheet whose trail is the joined trail. It is started as the first is, and the named words of a run
-- of the first, taken as inputs, are a starting value of the second. A starting value follows the joined sheet exactly if it follows
-- the first and its named words follow the second. The report of a line of the joined sheet is the report of the line it came from.
pub record JoinedRight (first second names : List ℕ) : Type 0 where
  pub accepted : IsAccepted (joined_sheet first second names)
  pub trail : trail_of (joined_sheet first second names) ≡ joined_trail first second names
  pub starts : (x : List ℕ) → is_start (trail_of (joined_sheet first second names)) x ≡ is_start (trail_of first) x
  pub second_starts : (x : List ℕ) → is_start (trail_of first) x ≡ true
      → is_start (trail_of second) (named_words (trail_of first) names x) ≡ true
  pub both_followed : (x : List ℕ) → is_start (trail_of first) x ≡ true
      → follows (trail_of (joined_sheet first second names)) x
      ≡ (follows (trail_of first) x && follows (trail_of second) (named_words (trail_of first) names x))
  pub lines : line_count (trail_of (joined_sheet first second names)) ≡ line_count (trail_of first) + line_count (trail_of second)
  pub first_reports : (k : ℕ) → k < line_count (trail_of first)
      → line_report (trail_of (joined_sheet first second names)) k ≡ line_report (trail_of first) k
  pub second_reports : (k : ℕ) → k < line_count (trail_of second)
      → line_report (trail_of (joined_sheet first second names)) (line_count (trail_of first) + k) ≡ line_report (trail_of second) k

-- for every two accepted sheets and every list of names that passes
abbrev pub JoinedSheetsAreRight : Type 0
JoinedSheetsAreRight =
    (first second names : List ℕ) → IsAccepted first → IsAccepted second
    → all_yes (join_questions first second names) ≡ true
    → JoinedRight first second names
