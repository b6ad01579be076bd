-- What the answer of the call that joins two sheets means (document 02, W-203), and what joining two sheets that were read comes to.
use Rattle.std.specs.Prelude.{ℕ, List, ◌++◌, length, Result}
use Rattle.sheet.specs.Asking.{Question, Verdict}
use Rattle.sheet.specs.Questions.{room_questions}
use Rattle.answers.specs.Answers.{answer_means}
use Rattle.answers.specs.declared.Refusal.{Refusal}
use Rattle.answers.specs.Calls.{Call, writing}
use Rattle.joined_sheets.specs.JoinedSheet.{join_questions, joined_sheet}

-- the number of bytes written
abbrev pub join_means : Result ℕ Refusal → Verdict ℕ
join_means = answer_means (λ n. n)

-- what is asked of two sheets that were read: 20, 21 and 22; 18 last, for this very answer
abbrev pub own_asks : List ℕ → List ℕ → List ℕ → List ℕ → List Question
own_asks first second names out =
    join_questions first second names ++ room_questions (length (joined_sheet first second names)) (length out)

-- what joining two sheets that were read comes to: an inner notion, which no user's call comes to
abbrev pub own_call : List ℕ → List ℕ → List ℕ → List ℕ → Call ℕ
own_call first second names out = writing (own_asks first second names out) (joined_sheet first second names) out
