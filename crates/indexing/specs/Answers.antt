-- What the answer of the call for the index means (document 02, W-208).
use Rattle.std.specs.Prelude.{ℕ, Result}
use Rattle.sheet.specs.Asking.{Verdict}
use Rattle.answers.specs.Answers.{answer_means}
use Rattle.answers.specs.declared.Refusal.{Refusal}

-- the number of numbers written
abbrev pub index_means : Result ℕ Refusal → Verdict ℕ
index_means = answer_means (λ n. n)
