-- What the call that joins two sheets comes to (document 02, W-203).
use Rattle.std.specs.Prelude.{ℕ, List, ◌++◌, length}
use Rattle.sheet.specs.Asking.{Question}
use Rattle.sheet.specs.Questions.{questions, room_questions}
use Rattle.sheet.specs.declared.Mode.TheVariants.{Read}
use Rattle.answers.specs.Calls.{Call, writing}
use Rattle.joined_sheets.specs.JoinedSheet.{join_questions, joined_sheet}

-- its questions: the first sheet's by the reading, then the second's, then 20, 21 and 22; 18 last, for this very answer
abbrev pub join_asks : List ℕ → List ℕ → List ℕ → List ℕ → List Question
join_asks first second names out =
    questions Read first
    ++ (questions Read second
    ++ (join_questions first second names ++ room_questions (length (joined_sheet first second names)) (length out)))

-- The call writes the joined sheet; a longer buffer keeps its rest.
abbrev pub join_call : List ℕ → List ℕ → List ℕ → List ℕ → Call ℕ
join_call first second names out = writing (join_asks first second names out) (joined_sheet first second names) out
