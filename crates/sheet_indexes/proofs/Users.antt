-- The lines that name a word: exactly those, and ascending.
use Prim.Native.Nat.{ℕ, zero, suc, ◌<◌}
use native.Mathlib.Omega.{arith}
use mathlib.Core.Path.{◌≡◌, refl, sym, ap, subst, ◌∙◌}
use mathlib.Core.Logic.{◌↔◌, ◌⊎◌, inl, inr}
use mathlib.Core.Bool.{Bool, true, false, ◌&&◌, ◌||◌, true≢false}
use mathlib.Core.List.{List, [], ◌∷◌}
use borrow.Author.Tests.{eqb-true, eq-eqb}
use lib.Dec.{eqb}
use lib.ListN.{length, get_or}
use Rattle.words.specs.Below.{count}
use Rattle.trail.specs.declared.Line.{Line}
use Rattle.trail.specs.Kinds.{kind_of, uses_second}
use Rattle.trail.specs.Trail.{Trail, line_count, line_at}
use Rattle.sheet_indexes.specs.Users.{names_word, users, Names, Has, UsedByKind, UsersAreRight}
use Rattle.sheet_indexes.proofs.Passing.{passing_count, passing_inside, passing_at, passing_each, passing_ascends}

-- P holds of each
unfoldable All : (ℕ → Type 0) → List ℕ → Type 0
All P [] = Unit {0}
All P (x ∷ xs) = P x × All P xs

-- ---- the test and the sentence

pub names_tested : (l : Line) (j : ℕ) → Names l j → names_word l j ≡ true
unfolding names_word
names_tested l j (inl e) = rw (eq-eqb l.first j e)
names_tested l j (inr h) = at (eqb l.first j)
  where
    at : (b : Bool) → (b || (uses_second (kind_of l.kind) && eqb l.second j)) ≡ true
    at true = refl
    at false = rw (h.0, eq-eqb l.second j h.1)

pub names_told : (l : Line) (j : ℕ) → names_word l j ≡ true → Names l j
unfolding names_word
names_told l j = at (eqb l.first j) refl (uses_second (kind_of l.kind)) refl (eqb l.second j) refl
  where
    at : (b : Bool) → eqb l.first j ≡ b → (u : Bool) → uses_second (kind_of l.kind) ≡ u → (c : Bool) → eqb l.second j ≡ c
        → (b || (u && c)) ≡ true → Names l j
    at true e u f c g h = inl (eqb-true l.first j e)
    at false e true f true g h = inr (f, eqb-true l.second j g)
    at false e true f false g h = absurd (true≢false (sym h))
    at false e false f c g h = absurd (true≢false (sym h))

-- ---- by the kind's number

both_used : (l : Line) (j : ℕ) → uses_second (kind_of l.kind) ≡ true → names_word l j ≡ (eqb l.first j || eqb l.second j)
unfolding names_word
both_used l j used = ap (λ (u : Bool). eqb l.first j || (u && eqb l.second j)) used

first_used : (l : Line) (j : ℕ) → uses_second (kind_of l.kind) ≡ false → names_word l j ≡ eqb l.first j
unfolding names_word
first_used l j unused = ap (λ (u : Bool). eqb l.first j || (u && eqb l.second j)) unused ∙ alone (eqb l.first j)
  where
    alone : (b : Bool) → (b || false) ≡ b
    alone true = refl
    alone false = refl

-- a list's numbers one by one
each_of : (P : ℕ → Type 0) (l : List ℕ) → All P l → (i : ℕ) → Has l i → P i
unfolding All
each_of P [] all i has = absurd (omega (arith, has.inside))
each_of P (x ∷ xs) all i has = at (each_of P xs all.1 i) has.place has.inside has.there
  where
    at : (Has xs i → P i) → (p : ℕ) → p < length (x ∷ xs) → get_or (x ∷ xs) p 0 ≡ i → P i
    at rest zero inside e = subst P e all.0
    at rest (suc p) inside e = rest (record { place = p; inside = omega arith; there = e })

pub used_by_kind : UsedByKind
unfolding kind_of All
used_by_kind l j = record {
  both = λ has. both_used l j (each_of (λ k. uses_second (kind_of k) ≡ true) (1 ∷ 5 ∷ 9 ∷ []) (refl, (refl, (refl, tt))) l.kind has);
  first_alone = λ has.
      first_used l j
      (each_of (λ k. uses_second (kind_of k) ≡ false) (2 ∷ 3 ∷ 4 ∷ 6 ∷ 7 ∷ 8 ∷ []) (refl, (refl, (refl, (refl, (refl, (refl, tt)))))) l.kind has);
}

-- ---- the list

module _ (t : Trail) (j : ℕ) where
  abbrev pub names_it : ℕ → Bool
  names_it i = names_word (line_at t i) j

  pub users_count : length (users t j) ≡ count (line_count t) names_it
  unfolding users
  users_count = passing_count names_it (line_count t)

  -- a line that names the word stands behind those before it that do
  module _ (i : ℕ) (l : i < line_count t) (names : names_it i ≡ true) where
    pub user_inside : count i names_it < length (users t j)
    unfolding users
    user_inside = passing_inside names_it (line_count t) i l names

    pub user_at : get_or (users t j) (count i names_it) 0 ≡ i
    unfolding users
    user_at = passing_at names_it (line_count t) i l names

  pub user_each : (P : ℕ → Type 0) → ((i : ℕ) → i < line_count t → names_it i ≡ true → P (count i names_it)) → (q : ℕ) → q < length (users t j) → P q
  unfolding users
  user_each P = passing_each names_it P (line_count t)

  ascending : (p q : ℕ) → p < q → q < length (users t j) → get_or (users t j) p 0 < get_or (users t j) q 0
  unfolding users
  ascending = passing_ascends names_it (line_count t)

  in_list : (i : ℕ) → Has (users t j) i → (i < line_count t) × Names (line_at t i) j
  in_list i has =
      user_each (λ q. get_or (users t j) q 0 ≡ i → (i < line_count t) × Names (line_at t i) j)
      (λ k l names e.
      subst (λ (n : ℕ). (n < line_count t) × Names (line_at t n) j) (sym (user_at k l names) ∙ e) (l, names_told (line_at t k) j names))
      has.place has.inside has.there

  listed : (i : ℕ) → (i < line_count t) × Names (line_at t i) j → Has (users t j) i
  listed i h =
      let names = names_tested (line_at t i) j h.1 in
      record { place = count i names_it; inside = user_inside i h.0 names; there = user_at i h.0 names }

pub users_are_right : UsersAreRight
users_are_right t j = record { exactly = λ i. (in_list t j i, listed t j i); ascending = ascending t j }
