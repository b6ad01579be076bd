-- A trial's answer equals changing a copy and reporting on it (document 02, W-206).
use Rattle.std.specs.Prelude.{ℕ, ◌<◌, ◌≡◌, List}
use Rattle.trail.specs.Trail.{line_at}
use Rattle.sheet.specs.Asking.{Verdict}
use Rattle.sheet.specs.Asking.Verdict.{accepted, refused}
use Rattle.sheet.specs.Fields.{header_of, trail_of}
use Rattle.sheet.specs.Questions.{IsAccepted}
use Rattle.answers.specs.Calls.{Call}
use Rattle.changed_sheets.specs.ChangeCall.{change_call}
use Rattle.report.specs.Answers.{reports_call}
use Rattle.tried_changes.specs.TrialCall.{trial_call}

-- the report buffer's call on the copy that a change left; if the change was refused, its refusal, and nothing written
abbrev pub reporting_on : Verdict ℕ → List ℕ → List ℕ → Call ℕ
reporting_on (accepted n) copy out = reports_call copy out
reporting_on (refused n p) copy out = record { answer = refused n p; buffer = out }

-- changing a copy, and reporting on it
abbrev pub changing_acopy : List ℕ → ℕ → ℕ → List ℕ → Call ℕ
changing_acopy s k d out = reporting_on (change_call s k d).answer (change_call s k d).buffer out

-- the answer and every byte of the buffer, for all bytes, lines, differences and buffers
abbrev pub TrialIsChangingACopy : Type 0
TrialIsChangingACopy = (s : List ℕ) (k d : ℕ) (out : List ℕ) → trial_call s k d out ≡ changing_acopy s k d out

-- A trial of the difference that a line of an accepted sheet states already is the report buffer's call.
abbrev pub TrialOfTheSame : Type 0
TrialOfTheSame =
    (s : List ℕ) (k : ℕ) (out : List ℕ) → IsAccepted s → k < (header_of s).lines
    → trial_call s k (line_at (trail_of s) k).difference out ≡ reports_call s out
