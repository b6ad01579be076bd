-- What the trial call answers, and what it has written then (document 02, W-206).
use Rattle.std.specs.Prelude.{ℕ, ◌*◌, ◌^◌, ◌<◌, ◌≤◌, ◌≡◌, List, length}
use Rattle.buffers.specs.Overwrite.{overwrite}
use Rattle.sheet.specs.Asking.{verdict}
use Rattle.sheet.specs.Asking.Verdict.{accepted, refused}
use Rattle.sheet.specs.Fields.{header_of}
use Rattle.sheet.specs.Questions.{questions, IsAccepted}
use Rattle.sheet.specs.declared.Mode.TheVariants.{Read}
use Rattle.report_buffer.specs.Buffer.{sheet_bytes}
use Rattle.tried_changes.specs.TrialCall.{tried_trail, trial_call}

-- the reports' bytes, from the buffer's start: 16 a line
pub record TrialWritten (s : List ℕ) (k d : ℕ) (out : List ℕ) : Type 0 where
  pub count : (trial_call s k d out).answer ≡ accepted (16 * (header_of s).lines)
  pub bytes : (trial_call s k d out).buffer ≡ overwrite 0 (sheet_bytes (tried_trail s k d)) out

-- Refusals in their order: those of the reading, then 17, then 14, place: the line, then 18. A refused call writes nothing.
pub record TrialAnswered (s : List ℕ) (k d : ℕ) (out : List ℕ) : Type 0 where
  pub by_reading : (n p : ℕ) → verdict (questions Read s) (header_of s) ≡ refused n p → (trial_call s k d out).answer ≡ refused n p
  pub past_the_last : IsAccepted s → (header_of s).lines ≤ k → (trial_call s k d out).answer ≡ refused 17 0
  pub no_word : IsAccepted s → k < (header_of s).lines → 2 ^ (header_of s).width ≤ d → (trial_call s k d out).answer ≡ refused 14 k
  pub no_room : IsAccepted s → k < (header_of s).lines → d < 2 ^ (header_of s).width → length out < 16 * (header_of s).lines
      → (trial_call s k d out).answer ≡ refused 18 0
  pub passes : IsAccepted s → k < (header_of s).lines → d < 2 ^ (header_of s).width → 16 * (header_of s).lines ≤ length out
      → TrialWritten s k d out
  pub unwritten : (n p : ℕ) → (trial_call s k d out).answer ≡ refused n p → (trial_call s k d out).buffer ≡ out

-- for all bytes, lines, differences and buffers
abbrev pub TrialAnswersInOrder : Type 0
TrialAnswersInOrder = (s : List ℕ) (k d : ℕ) (out : List ℕ) → TrialAnswered s k d out
