-- What the call on two runs as C takes it comes to (document 01, "Two runs").
use Rattle.std.specs.Prelude.{ℕ, List, [], ◌∷◌, ◌++◌, length}
use Rattle.sheet.specs.Fields.{trail_of}
use Rattle.sheet.specs.Questions.{questions, room_questions, start_questions}
use Rattle.sheet.specs.declared.Mode.TheVariants.{Read}
use Rattle.answers.specs.Calls.{Call, writing}
use Rattle.sheet_runs.specs.Outcome.{Outcome, outcome}
use Rattle.sheet_runs.specs.Outcome.Outcome.{followed, disagree}

-- 1, 0, 0 where they follow; else 0, the first line, and in it the lowest bit, where the differences disagree
abbrev pub outcome_numbers : Outcome → List ℕ
outcome_numbers followed = 1 ∷ 0 ∷ 0 ∷ []
outcome_numbers (disagree k i) = 0 ∷ k ∷ i ∷ []

-- 18 for three numbers, then 19
abbrev pub outcome_call : List ℕ → List ℕ → List ℕ → Call ℕ
outcome_call s x out =
    writing (questions Read s ++ (room_questions 3 (length out) ++ start_questions (trail_of s) x))
    (outcome_numbers (outcome (trail_of s) x)) out
