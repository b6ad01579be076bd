-- A line counts once at each word that it names.
use Prim.Native.Nat.{ℕ, ◌+◌}
use native.Mathlib.Decide.{ℕ_discrete}
use native.Mathlib.Numerals.{add-one}
use mathlib.Core.Path.{◌≡◌, refl, sym, ap, subst, ◌∙◌}
use mathlib.Core.Logic.{◌≢◌}
use mathlib.Core.Bool.{Bool, true, false, not, ◌&&◌, ◌||◌, true≢false, and-eq-true_iff}
use borrow.Author.Tests.{eq-eqb, ne_eqb}
use lib.Dec.{eqb}
use Rattle.words.specs.Words.{value}
use Rattle.words.specs.Below.{count}
use Rattle.trail.specs.declared.Line.{Line}
use Rattle.trail.specs.Kinds.{kind_of, uses_second}
use Rattle.trail.specs.Trail.{Trail, line_at}
use Rattle.sheet_indexes.specs.Users.{names_word}
use Rattle.index_writer.specs.Placing.{names_another, users_before}

module _ (l : Line) where
  abbrev second : Bool
  second = uses_second (kind_of l.kind)

  pub names_first : names_word l l.first ≡ true
  unfolding names_word
  names_first = rw (eq-eqb l.first l.first refl)

  -- no second word
  pub one_word : names_another l ≡ false → (j : ℕ) → value (eqb l.first j) ≡ value (names_word l j)
  unfolding names_another names_word
  one_word none j = at second none (ℕ_discrete l.first l.second)
    where
      at : (u : Bool) → (u && not (eqb l.first l.second)) ≡ false → Dec (l.first ≡ l.second)
          → value (eqb l.first j) ≡ value (eqb l.first j || (u && eqb l.second j))
      at false e same = once (eqb l.first j)
        where
          once : (b : Bool) → value b ≡ value (b || false)
          once true = refl
          once false = refl
      at true e (yes same) = subst (λ (n : ℕ). value (eqb l.first j) ≡ value (eqb l.first j || eqb n j)) same (once (eqb l.first j))
        where
          once : (b : Bool) → value b ≡ value (b || b)
          once true = refl
          once false = refl
      at true e (no other) = absurd (true≢false (ap not (sym (ne_eqb l.first l.second other)) ∙ e))

  module _ (another : names_another l ≡ true) where
    parts : (second ≡ true) × (not (eqb l.first l.second) ≡ true)
    unfolding names_another
    parts = (and-eq-true_iff second (not (eqb l.first l.second))).0 another

    pub second_used : second ≡ true
    second_used = parts.0

    pub words_differ : l.first ≢ l.second
    words_differ e = true≢false (sym parts.1 ∙ ap not (eq-eqb l.first l.second e))

    pub names_second : names_word l l.second ≡ true
    unfolding names_word
    names_second = at (eqb l.first l.second)
      where
        at : (b : Bool) → (b || (second && eqb l.second l.second)) ≡ true
        at true = refl
        at false = rw (second_used, eq-eqb l.second l.second refl)

    pub two_words_lem : (j : ℕ) → value (eqb l.first j) + value (eqb l.second j) ≡ value (names_word l j)
    unfolding names_word
    two_words_lem j = rw second_used (at (ℕ_discrete l.first j) (ℕ_discrete l.second j))
      where
        at : Dec (l.first ≡ j) → Dec (l.second ≡ j)
            → value (eqb l.first j) + value (eqb l.second j) ≡ value (eqb l.first j || (true && eqb l.second j))
        at (yes e) (yes f) = absurd (words_differ (e ∙ sym f))
        at (yes e) (no g) = rw (eq-eqb l.first j e, ne_eqb l.second j g)
        at (no g) (yes f) = rw (ne_eqb l.first j g, eq-eqb l.second j f)
        at (no g) (no h) = rw (ne_eqb l.first j g, ne_eqb l.second j h)

pub users_none : (t : Trail) (j : ℕ) → users_before t 0 j ≡ 0
unfolding count
users_none t j = refl

pub users_next : (t : Trail) (i j : ℕ) → users_before t (i + 1) j ≡ users_before t i j + value (names_word (line_at t i) j)
unfolding count
users_next t i j = rw add-one
