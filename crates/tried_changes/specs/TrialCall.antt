-- What the trial call comes to (document 02, W-206).
use Rattle.std.specs.Prelude.{ℕ, List, ◌++◌, length}
use Rattle.trail.specs.Trail.{Trail}
use Rattle.trail.specs.Changing.{with_difference}
use Rattle.sheet.specs.Asking.{Question}
use Rattle.sheet.specs.Fields.{trail_of}
use Rattle.sheet.specs.Questions.{room_questions}
use Rattle.answers.specs.Calls.{Call, writing}
use Rattle.changed_sheets.specs.ChangeCall.{change_asks}
use Rattle.report_buffer.specs.Buffer.{sheet_bytes}

-- the trail that the sheet would have
abbrev pub tried_trail : List ℕ → ℕ → ℕ → Trail
tried_trail s k d = with_difference (trail_of s) k d

-- what the change call asks: reading, 17, 14 (place: the line); then 18, for this very answer
abbrev pub trial_asks : List ℕ → ℕ → ℕ → List ℕ → List Question
trial_asks s k d out = change_asks s k d ++ room_questions (length (sheet_bytes (tried_trail s k d))) (length out)

-- The call gives the report that the sheet would have, in the report buffer's form.
abbrev pub trial_call : List ℕ → ℕ → ℕ → List ℕ → Call ℕ
trial_call s k d out = writing (trial_asks s k d out) (sheet_bytes (tried_trail s k d)) out
