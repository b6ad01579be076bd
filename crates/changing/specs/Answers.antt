-- What the answer of the change call means (document 02, W-206). That of the trial call is the report buffer's.
use Rattle.std.specs.Prelude.{ℕ, Result}
use Rattle.sheet.specs.Asking.{Verdict}
use Rattle.answers.specs.Answers.{answer_means}
use Rattle.answers.specs.declared.Refusal.{Refusal}

-- a change counts nothing
abbrev pub change_means : Result (Unit {0}) Refusal → Verdict ℕ
change_means = answer_means (λ _. 0)
