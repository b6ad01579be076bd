-- Questions in order, and what a list of them comes to (document 01, "Questions, in order").
use Rattle.std.specs.Prelude.{ℕ, List, [], ◌∷◌, Bool, true, ◌&&◌, cond}

-- a question: its answer, its number and its place
pub record Question : Type 0 where
  pub answer : Bool
  pub number : ℕ
  pub place : ℕ

abbrev pub ask : Bool → ℕ → ℕ → Question
ask a n p = record { answer = a; number = n; place = p }

-- whether the answer is yes to all questions
unfoldable pub all_yes : List Question → Bool
all_yes [] = true
all_yes (q ∷ qs) = q.answer && all_yes qs

-- what a call comes to: its answer, or a refusal with number and place
pub data Verdict (A : Type 0) : Type 0 where
  accepted : A → Verdict A
  refused : ℕ → ℕ → Verdict A

-- the first question whose answer is no ends the reading; with yes to all, the call gives its answer
unfoldable pub verdict : {A : Type 0} → List Question → A → Verdict A
verdict [] a = accepted a
verdict (q ∷ qs) a = cond q.answer (verdict qs a) (refused q.number q.place)
