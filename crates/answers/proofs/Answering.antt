-- How a stage's answer follows from the questions that it asks: rules for `search`.
use Prim.Native.Nat.{ℕ, ◌<◌, ◌≤◌}
use mathlib.Core.Path.{◌≡◌, sym, ap, ◌∙◌}
use mathlib.Core.Bool.{Bool, true, false, ◌&&◌}
use mathlib.Core.List.{List, ◌++◌}
use borrow.Author.Tests.{eq-eqb, ne_eqb}
use Rattle.words.specs.Below.{concat}
use Rattle.sheet.specs.Asking.{Question, all_yes, Verdict, verdict}
use Rattle.sheet.specs.Asking.Verdict.{accepted, refused}
use Rattle.answers.specs.Answers.{reading_means}
use Rattle.sheet.specs.declared.Header.{Header}
use Rattle.answers.specs.declared.Refusal.{Refusal}
use Rattle.std.specs.Prelude.{Result, Ok, Err}
use Rattle.sheet.proofs.Asking.{verdict_yes, yes_verdict, yes_none, yes_next, yes_one, stop, stop_at, Comes, comes}
use Rattle.sheet.proofs.Asking.Comes.{done, yes, no}
use Rattle.sheet.proofs.Testing.{denied, granted, same_end, within_least, within_most}

-- an answer that a call made
pub says : (r : Result Header Refusal) {v w : Verdict Header} → reading_means r ≡ v → v ≡ w → reading_means r ≡ w
says r e d = e ∙ d

-- the parts that a call found
pub found : {h g : Header} {v : Verdict Header} → h ≡ g → accepted g ≡ v → accepted h ≡ v
found e d = ap accepted e ∙ d

pub and_no : (s t : Bool) → s ≡ false → (s && t) ≡ false
and_no s t e = ap (λ x. x && t) e

pub and_then : (s t : Bool) → s ≡ true → t ≡ false → (s && t) ≡ false
and_then s t e d = ap (λ x. x && t) e ∙ d

pub and_yes : (s t : Bool) → s ≡ true → t ≡ true → (s && t) ≡ true
and_yes s t e d = ap (λ x. x && t) e ∙ d

pub ruleset stage = (says, found, comes, yes, no, done, denied, granted, eq-eqb, ne_eqb, and_no, and_then, and_yes, within_least, within_most)

-- ---- stages one after the other

-- what an accepting stage has asked
pub asked : (qs : List Question) (h : Header) (r : Result Header Refusal) (g : Header) → reading_means r ≡ verdict qs h → r ≡ Ok g
    → (all_yes qs ≡ true) × (h ≡ g)
asked qs h r g e d = yes_verdict qs h g (sym e ∙ ap reading_means d)

-- a stage's refusal is the caller's
pub hand_on : (xs ys : List Question) (h g : Header) (r : Result Header Refusal) (v : Refusal) → reading_means r ≡ verdict xs h → r ≡ Err v
    → reading_means r ≡ verdict (xs ++ ys) g
hand_on xs ys h g r v e d = ap reading_means d ∙ sym (stop xs ys h g (sym e ∙ ap reading_means d))

-- ---- a loop over the questions of each number below n
module _ (f : ℕ → List Question) (n k : ℕ) (h : Header) where
  pub ends_at : {m p : ℕ} → k < n → all_yes (concat k f) ≡ true → Comes (f k) h (refused m p) → refused m p ≡ verdict (concat n f) h
  ends_at l e c = sym (stop_at f n k h h l e (sym (comes c)))

  pub passes : k ≤ n → n ≤ k → all_yes (concat k f) ≡ true → accepted h ≡ verdict (concat n f) h
  passes l g e = sym (verdict_yes (concat n f) h (ap (λ (i : ℕ). all_yes (concat i f)) (sym (same_end k n l g)) ∙ e))

  -- a stage of its own for each number
  pub hands_on : (r : Result Header Refusal) (v : Refusal) → k < n → all_yes (concat k f) ≡ true → reading_means r ≡ verdict (f k) h → r ≡ Err v
      → reading_means r ≡ verdict (concat n f) h
  hands_on r v l e d g = ap reading_means g ∙ sym (stop_at f n k h h l e (sym d ∙ ap reading_means g))

pub ruleset turn = (says, ends_at, passes, no, yes_none, yes_next, yes_one, denied, granted)
