-- What the change call that is lent index and report answers, and what it has left then (document 02, W-208).
use Rattle.std.specs.Prelude.{ℕ, ◌^◌, ◌<◌, ◌≤◌, ◌≡◌, ◌⊎◌, ◌≢◌, List}
use Rattle.sheet.specs.Asking.{verdict}
use Rattle.sheet.specs.Asking.Verdict.{accepted, refused}
use Rattle.sheet.specs.Fields.{header_of}
use Rattle.sheet.specs.Questions.{questions, IsAccepted}
use Rattle.sheet.specs.declared.Mode.TheVariants.{Read}
use Rattle.changed_sheets.specs.ChangedSheet.{changed_sheet}
use Rattle.changed_sheets.specs.Theorem.{ChangedRight}
use Rattle.indexed_changes.specs.IndexedCall.{indexed_call, indexed_sheet}
use Rattle.indexed_changes.specs.Theorem.{own_index, own_report}

-- A call that was not refused was lent the sheet's own index and report. It answers 0, leaves the changed sheet, which is right, and its
-- report; the index is that sheet's too.
pub record IndexedMade (s index report : List ℕ) (k d n : ℕ) : Type 0 where
  pub lent_own_index : index ≡ own_index s
  pub lent_own_report : report ≡ own_report s
  pub right : ChangedRight s k d
  pub count : n ≡ 0
  pub sheet : indexed_sheet s index report k d ≡ changed_sheet s k d
  pub report_afresh : (indexed_call s index report k d).buffer ≡ own_report (changed_sheet s k d)
  pub index_afresh : index ≡ own_index (changed_sheet s k d)

-- a refused call changes no byte
pub record IndexedKept (s index report : List ℕ) (k d : ℕ) : Type 0 where
  pub unchanged : indexed_sheet s index report k d ≡ s
  pub unrenewed : (indexed_call s index report k d).buffer ≡ report

-- Refusals in their order: those of the reading, then 26, then 17, then 14, place: the line.
pub record IndexedAnswered (s index report : List ℕ) (k d : ℕ) : Type 0 where
  pub by_reading : (n p : ℕ) → verdict (questions Read s) (header_of s) ≡ refused n p → (indexed_call s index report k d).answer ≡ refused n p
  pub not_own : IsAccepted s → (index ≢ own_index s) ⊎ (report ≢ own_report s) → (indexed_call s index report k d).answer ≡ refused 26 0
  pub past_the_last : IsAccepted s → index ≡ own_index s → report ≡ own_report s → (header_of s).lines ≤ k
      → (indexed_call s index report k d).answer ≡ refused 17 0
  pub no_word : IsAccepted s → index ≡ own_index s → report ≡ own_report s → k < (header_of s).lines → 2 ^ (header_of s).width ≤ d
      → (indexed_call s index report k d).answer ≡ refused 14 k
  pub passes : IsAccepted s → index ≡ own_index s → report ≡ own_report s → k < (header_of s).lines → d < 2 ^ (header_of s).width
      → (indexed_call s index report k d).answer ≡ accepted 0
  pub made : (n : ℕ) → (indexed_call s index report k d).answer ≡ accepted n → IndexedMade s index report k d n
  pub kept : (n p : ℕ) → (indexed_call s index report k d).answer ≡ refused n p → IndexedKept s index report k d

-- for all bytes, indexes, reports, lines and differences
abbrev pub IndexedAnswersInOrder : Type 0
IndexedAnswersInOrder = (s index report : List ℕ) (k d : ℕ) → IndexedAnswered s index report k d
