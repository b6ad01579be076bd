-- What the answer of the call for a list of changes means (document 02, W-207).
use Rattle.std.specs.Prelude.{ℕ, Result}
use Rattle.sheet.specs.Asking.{Verdict}
use Rattle.answers.specs.Answers.{answer_means}
use Rattle.answers.specs.declared.Refusal.{Refusal}

-- the count is that of the pairs
abbrev pub changes_means : Result ℕ Refusal → Verdict ℕ
changes_means = answer_means (λ n. n)
