-- What the code's tests say, in the order in which it makes them: rules for `search`, each of a result that equals a definition.
use Prim.Native.Nat.{ℕ, ◌<◌, ◌≤◌}
use native.Mathlib.Omega.{arith}
use mathlib.Core.Path.{◌≡◌, sym, ap, ◌∙◌}
use mathlib.Core.Bool.{Bool, true, false, not, ◌&&◌, ◌||◌, cond, and-eq-true_iff}
use borrow.Author.Tests.{eq-eqb, ne_eqb, lt-ltb, le-ltb, le-leb, lt-leb, leb-true, not-true, not-false}
use lib.Dec.{leb}
use Rattle.words.specs.Below.{all}
use Rattle.words.proofs.Below.{all_none, all_next, all_fails}
use Rattle.sheet.specs.Questions.{within}

-- a test `!r` of a call whose result is known
pub denied : {r t : Bool} → r ≡ t → not r ≡ true → t ≡ false
denied e h = sym e ∙ not-true _ h

pub granted : {r t : Bool} → r ≡ t → not r ≡ false → t ≡ true
granted e h = sym e ∙ not-false _ h

-- ---- tests joined

pub and_stops : (s t : Bool) → s ≡ false → false ≡ (s && t)
and_stops s t e = sym (ap (λ x. x && t) e)

pub and_goes_on : (s t : Bool) {r : Bool} → s ≡ true → r ≡ t → r ≡ (s && t)
and_goes_on s t e d = d ∙ sym (ap (λ x. x && t) e)

pub or_stops : (s t : Bool) → s ≡ true → true ≡ (s || t)
or_stops s t e = sym (ap (λ x. x || t) e)

pub or_goes_on : (s t : Bool) {r : Bool} → s ≡ false → r ≡ t → r ≡ (s || t)
or_goes_on s t e d = d ∙ sym (ap (λ x. x || t) e)

pub unless_stops : (s t : Bool) → s ≡ false → true ≡ (not s || t)
unless_stops s t e = sym (ap (λ x. not x || t) e)

pub unless_goes_on : (s t : Bool) {r : Bool} → s ≡ true → r ≡ t → r ≡ (not s || t)
unless_goes_on s t e d = d ∙ sym (ap (λ x. not x || t) e)

pub if_yes : (s t u : Bool) {r : Bool} → s ≡ true → r ≡ t → r ≡ cond s t u
if_yes s t u e d = d ∙ sym (ap (λ x. cond x t u) e)

pub if_no : (s t u : Bool) {r : Bool} → s ≡ false → r ≡ u → r ≡ cond s t u
if_no s t u e d = d ∙ sym (ap (λ x. cond x t u) e)

-- ---- a test of each number below a bound, in a loop

pub same_end : (j b : ℕ) → j ≤ b → b ≤ j → j ≡ b
same_end j b h l = omega arith

pub each_fails : (b : ℕ) (p : ℕ → Bool) (k : ℕ) → k < b → p k ≡ false → false ≡ all b p
each_fails b p k l e = sym (all_fails b p k l e)

pub each_passes : (b j : ℕ) (p : ℕ → Bool) → j ≤ b → b ≤ j → all j p ≡ true → true ≡ all b p
each_passes b j p h l e = sym (ap (λ (i : ℕ). all i p) (sym (same_end j b h l)) ∙ e)

pub ruleset facts = (eq-eqb, ne_eqb, lt-ltb, le-ltb, le-leb, lt-leb, denied, granted)

pub ruleset testing = (facts, and_stops, and_goes_on, or_stops, or_goes_on, unless_stops, unless_goes_on, if_yes, if_no)

pub ruleset looping = (facts, all_none, all_next, each_fails, each_passes)

-- ---- what a test of a range says

pub within_least : (a b x : ℕ) → within a b x ≡ true → a ≤ x
unfolding within
within_least a b x e = leb-true a x ((and-eq-true_iff (leb a x) (leb x b)).0 e).0

pub within_most : (a b x : ℕ) → within a b x ≡ true → x ≤ b
unfolding within
within_most a b x e = leb-true x b ((and-eq-true_iff (leb a x) (leb x b)).0 e).1
