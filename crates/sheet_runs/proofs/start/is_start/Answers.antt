use Prim.Native.Nat.{ℕ, zero, suc, ◌≤◌}
use native.Mathlib.Numerals.{add-one}
use native.Mathlib.Omega.{arith}
use mathlib.Core.Path.{◌≡◌, refl, sym, ap, ◌∙◌}
use mathlib.Core.Bool.{Bool, true, false, ◌&&◌}
use mathlib.Core.List.{List}
use borrow.Author.Rules.{rules}
use borrow.Author.Tests.{tests, eq-eqb}
use lib.ListN.{length, take, get_or}
use lib.Seq.{take-length}
use Rattle.std.specs.List.{list_all}
use Rattle.std.proofs.lemmas.Iterator.{YieldsList-from_slice}
use Rattle.std.proofs.lemmas.Iterator.Search.{all_from_yields_List}
use Rattle.std.proofs.lemmas.List.Folds.{list_all_more}
use Rattle.words.specs.Words.{is_word}
use Rattle.words.specs.Below.{all}
use Rattle.trail.specs.Trail.{Trail, input_count}
use Rattle.trail.specs.Runs.{is_start}
use Rattle.trail.proofs.Runs.{start_length}
use Rattle.sheet_runs.proofs.start.is_start.Goals as goal

-- a list of the right length is a start where each of its numbers is a word
module _ (t : Trail) (x : List ℕ) where
  abbrev is_word_at : ℕ → Bool
  is_word_at j = is_word t.width (get_or x j 0)

  words_upto : (k : ℕ) → k ≤ length x → list_all (is_word t.width) (take k x) ≡ all k is_word_at
  unfolding all
  words_upto zero h = refl
  words_upto (suc k) h =
      ap (λ (n : ℕ). list_all (is_word t.width) (take n x)) (sym (add-one k))
      ∙ list_all_more (is_word t.width) x k 0 (omega arith)
      ∙ ap (λ (b : Bool). b && is_word_at k) (words_upto k (omega arith))

  start_is : length x ≡ input_count t → list_all (is_word t.width) x ≡ is_start t x
  unfolding is_start
  start_is e =
      rw (eq-eqb (length x) (input_count t) e)
      (ap (list_all (is_word t.width)) (sym (take-length x)) ∙ words_upto (length x) (omega arith))

no_start : (t : Trail) (x : List ℕ) → (is_start t x ≡ true → ⊥) → false ≡ is_start t x
no_start t x not_start = at (is_start t x) refl
  where
    at : (b : Bool) → is_start t x ≡ b → false ≡ b
    at false e = refl
    at true e = absurd (not_start e)

pub returns-then-start-header : goal.returns-then-start-header
returns-then-start-header c t width inputs = no_start t _ (λ s. omega (arith, start_length t _ s))

pub returns : goal.returns
returns c t width inputs =
    let x = c.args.start.now in
    all_from_yields_List (is_word c.args.header.width) _ _ _ c.all.ensures.ran (YieldsList-from_slice x c.iter.ensures.rest)
    (λ x b q k. search (rules, tests))
    ∙ ap (λ (n : ℕ). list_all (is_word n) x) (sym width)
    ∙ start_is t x (omega arith)
