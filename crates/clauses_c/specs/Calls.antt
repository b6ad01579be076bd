-- What the call for both counts as C takes it comes to (document 01, "Clauses").
use Rattle.std.specs.Prelude.{ℕ, List, [], ◌∷◌, ◌++◌, length}
use Rattle.sheet.specs.Fields.{trail_of}
use Rattle.sheet.specs.Questions.{questions, room_questions}
use Rattle.sheet.specs.declared.Mode.TheVariants.{Read}
use Rattle.answers.specs.Calls.{Call, writing}
use Rattle.clause_sizes.specs.Counts.{counts_of}
use Rattle.clause_sizes.specs.declared.Counts.{Counts}

abbrev pub counts_numbers : Counts → List ℕ
counts_numbers c = c.variables ∷ c.clauses ∷ []

-- 18 for two numbers
abbrev pub counts_call : List ℕ → List ℕ → Call ℕ
counts_call s out = writing (questions Read s ++ room_questions 2 (length out)) (counts_numbers (counts_of (trail_of s))) out
