-- What the answers of the calls on clauses mean, and what these calls come to (document 01, "Clauses").
use Rattle.std.specs.Prelude.{ℕ, List, ◌++◌, length, ℤ, Result}
use Rattle.sheet.specs.Asking.{Question, Verdict}
use Rattle.sheet.specs.Fields.{header_of, trail_of}
use Rattle.sheet.specs.Questions.{questions, line_number_questions, room_questions}
use Rattle.sheet.specs.declared.Mode.TheVariants.{Read}
use Rattle.answers.specs.Answers.{answer_means}
use Rattle.answers.specs.Calls.{Call, writing}
use Rattle.answers.specs.declared.Refusal.{Refusal}
use Rattle.clause_lists.specs.Lists.{line_list}
use Rattle.clause_sizes.specs.declared.Counts.{Counts}

-- document 01's number and place for a refusal, both counts else
abbrev pub counts_means : Result Counts Refusal → Verdict Counts
counts_means = answer_means (λ c. c)

-- how many numbers were written
abbrev pub list_means : Result ℕ Refusal → Verdict ℕ
list_means = answer_means (λ n. n)

-- the questions of the call for one line's list: 17, then 18 for this very answer
abbrev pub list_asks : List ℕ → ℕ → List ℤ → List Question
list_asks s k out =
    questions Read s
    ++ (line_number_questions (header_of s) k ++ room_questions (length (line_list (trail_of s) k)) (length out))

-- Another writes one line's list as signed 32-bit numbers: what it answers, and the lent buffer afterwards.
abbrev pub list_call : List ℕ → ℕ → List ℤ → Call ℤ
list_call s k out = writing (list_asks s k out) (line_list (trail_of s) k) out
