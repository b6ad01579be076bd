-- What the answer of the call on two runs means: document 01's number and place for a refusal, else what the runs come to.
use Rattle.std.specs.Prelude.{ℕ, List, ◌++◌, Result}
use Rattle.sheet.specs.Asking.{Question, Verdict}
use Rattle.sheet.specs.Fields.{trail_of}
use Rattle.sheet.specs.Questions.{questions, start_questions}
use Rattle.sheet.specs.declared.Mode.TheVariants.{Read}
use Rattle.sheet_runs.specs.Outcome.{Outcome, outcome_means}
use Rattle.answers.specs.Answers.{answer_means}
use Rattle.answers.specs.declared.Refusal.{Refusal}
use Rattle.sheet_runs.specs.declared.RunsOutcome.{RunsOutcome}

abbrev pub runs_means : Result RunsOutcome Refusal → Verdict Outcome
runs_means = answer_means outcome_means

-- the questions of the call
abbrev pub runs_asks : List ℕ → List ℕ → List Question
runs_asks s x = questions Read s ++ start_questions (trail_of s) x
