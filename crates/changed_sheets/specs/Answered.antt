-- What the change call answers, and what it has left then (document 02, W-206).
use Rattle.std.specs.Prelude.{ℕ, ◌^◌, ◌<◌, ◌≤◌, ◌≡◌, List}
use Rattle.sheet.specs.Asking.{verdict}
use Rattle.sheet.specs.Asking.Verdict.{accepted, refused}
use Rattle.sheet.specs.Fields.{header_of}
use Rattle.sheet.specs.Questions.{questions, IsAccepted}
use Rattle.sheet.specs.declared.Mode.TheVariants.{Read}
use Rattle.changed_sheets.specs.ChangedSheet.{changed_sheet}
use Rattle.changed_sheets.specs.Theorem.{ChangedRight}
use Rattle.changed_sheets.specs.ChangeCall.{change_call}

-- a call that was not refused: it answers 0 and leaves the changed sheet, which is right
pub record ChangeMade (s : List ℕ) (k d n : ℕ) : Type 0 where
  pub right : ChangedRight s k d
  pub count : n ≡ 0
  pub sheet : (change_call s k d).buffer ≡ changed_sheet s k d

-- Refusals in their order: those of the reading, then 17, then 14, place: the line. A line and a difference that pass are changed, and
-- a refused call changes no byte.
pub record ChangeAnswered (s : List ℕ) (k d : ℕ) : Type 0 where
  pub by_reading : (n p : ℕ) → verdict (questions Read s) (header_of s) ≡ refused n p → (change_call s k d).answer ≡ refused n p
  pub past_the_last : IsAccepted s → (header_of s).lines ≤ k → (change_call s k d).answer ≡ refused 17 0
  pub no_word : IsAccepted s → k < (header_of s).lines → 2 ^ (header_of s).width ≤ d → (change_call s k d).answer ≡ refused 14 k
  pub passes : IsAccepted s → k < (header_of s).lines → d < 2 ^ (header_of s).width → (change_call s k d).answer ≡ accepted 0
  pub made : (n : ℕ) → (change_call s k d).answer ≡ accepted n → ChangeMade s k d n
  pub kept : (n p : ℕ) → (change_call s k d).answer ≡ refused n p → (change_call s k d).buffer ≡ s

-- for all bytes, lines and differences
abbrev pub ChangeAnswersInOrder : Type 0
ChangeAnswersInOrder = (s : List ℕ) (k d : ℕ) → ChangeAnswered s k d
