-- What the call answers, and what it has written then (document 02, W-203).
use Rattle.std.specs.Prelude.{ℕ, ◌+◌, ◌≤◌, ◌<◌, ◌≡◌, true, false, List, length, take, drop}
use Rattle.trail.specs.Trail.{line_count}
use Rattle.trail.specs.Joining.{names_right}
use Rattle.sheet.specs.Asking.{all_yes, verdict}
use Rattle.sheet.specs.Asking.Verdict.{accepted, refused}
use Rattle.sheet.specs.Fields.{header_of, trail_of}
use Rattle.sheet.specs.Questions.{questions, IsAccepted}
use Rattle.sheet.specs.declared.Mode.TheVariants.{Read}
use Rattle.joined_sheets.specs.JoinedSheet.{join_questions, joined_sheet}
use Rattle.joined_sheets.specs.Theorem.{JoinedRight}
use Rattle.joined_sheets.specs.JoinCall.{join_call}

-- As many bytes as the call counts, from the buffer's start, are the joined sheet, which is right; the rest is kept.
pub record JoinWritten (first second names out : List ℕ) (n : ℕ) : Type 0 where
  pub right : JoinedRight first second names
  pub written : take n (join_call first second names out).buffer ≡ joined_sheet first second names
  pub rest : drop n (join_call first second names out).buffer ≡ drop n out

-- for all bytes, names and buffers
abbrev pub WritesTheJoinedSheet : Type 0
WritesTheJoinedSheet =
    (first second names out : List ℕ) (n : ℕ) → (join_call first second names out).answer ≡ accepted n → JoinWritten first second names out n

-- Two accepted sheets and a list of names that passes are joined wherever the buffer holds the joined sheet.
abbrev pub JoinsWhatPasses : Type 0
JoinsWhatPasses =
    (first second names out : List ℕ) → IsAccepted first → IsAccepted second → all_yes (join_questions first second names) ≡ true
    → length (joined_sheet first second names) ≤ length out
    → (join_call first second names out).answer ≡ accepted (length (joined_sheet first second names))

-- Refusals in their order: those of the reading, the first sheet before the second; after both sheets pass it 20, 21 and 22; 18 last.
-- A refused call changes no byte.
pub record JoinRefused (first second names out : List ℕ) : Type 0 where
  pub first_unread : (n p : ℕ) → verdict (questions Read first) (header_of first) ≡ refused n p
      → (join_call first second names out).answer ≡ refused n p
  pub second_unread : IsAccepted first → (n p : ℕ) → verdict (questions Read second) (header_of second) ≡ refused n p
      → (join_call first second names out).answer ≡ refused n p
  pub other_width : IsAccepted first → IsAccepted second → ((trail_of first).width ≡ (trail_of second).width → ⊥)
      → (join_call first second names out).answer ≡ refused 20 0
  pub wrong_names : IsAccepted first → IsAccepted second → (trail_of first).width ≡ (trail_of second).width
      → names_right (trail_of first) (trail_of second) names ≡ false → (join_call first second names out).answer ≡ refused 21 0
  pub many_lines : IsAccepted first → IsAccepted second → (trail_of first).width ≡ (trail_of second).width
      → names_right (trail_of first) (trail_of second) names ≡ true → 248 < line_count (trail_of first) + line_count (trail_of second)
      → (join_call first second names out).answer ≡ refused 22 0
  pub no_room : IsAccepted first → IsAccepted second → all_yes (join_questions first second names) ≡ true
      → length out < length (joined_sheet first second names) → (join_call first second names out).answer ≡ refused 18 0
  pub bytes : (n p : ℕ) → (join_call first second names out).answer ≡ refused n p → (join_call first second names out).buffer ≡ out

abbrev pub JoinRefusesInOrder : Type 0
JoinRefusesInOrder = (first second names out : List ℕ) → JoinRefused first second names out
