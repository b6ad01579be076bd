-- Where each word's part stands in the index, and that the parts are all of it.
use Prim.Native.Nat.{ℕ, zero, suc, ◌+◌, ◌-◌, ◌≤◌, ◌<◌}
use native.Mathlib.Nat.{add-zero}
use native.Mathlib.Numerals.{add-one}
use native.Mathlib.Omega.{arith}
use mathlib.Core.Path.{◌≡◌, refl, sym, ap, subst, ◌∙◌}
use mathlib.Core.List.{List, ◌∷◌}
use lib.ListN.{length, get_or}
use Rattle.words.specs.Below.{total, concat}
use Rattle.words.proofs.Below.{length_concat, total_cong}
use Rattle.trail.specs.Trail.{Trail}
use Rattle.sheet_indexes.specs.Users.{users}
use Rattle.sheet_indexes.specs.Index.{word_part, word_count, index_of, part_start, PartsRise, PartsAreRight}
use Rattle.sheet_indexes.proofs.Parts.{part_fits, part_at, part_each}
use Rattle.sheet_indexes.proofs.Users.{users_count}

module _ (t : Trail) where
  pub parts_length : (j : ℕ) → length (concat j (word_part t)) ≡ part_start t j
  unfolding part_start
  parts_length j =
      length_concat j (word_part t)
      ∙ total_cong j (λ i. length (word_part t i)) (λ i. 1 + length (users t i)) (λ i l. omega arith)

  pub index_length : length (index_of t) ≡ part_start t (word_count t)
  unfolding index_of
  index_length = parts_length (word_count t)

  pub start_none : part_start t 0 ≡ 0
  unfolding part_start total
  start_none = refl

  pub start_next : (j : ℕ) → part_start t (j + 1) ≡ part_start t j + 1 + length (users t j)
  unfolding part_start total
  start_next j = rw add-one (omega arith)

  module _ (j : ℕ) (l : j < word_count t) where
    pub part_inside : part_start t j + 1 + length (users t j) ≤ length (index_of t)
    unfolding index_of
    part_inside = omega (arith, part_fits (word_part t) (word_count t) j l, parts_length j)

    pub index_count : get_or (index_of t) (part_start t j) 0 ≡ length (users t j)
    unfolding index_of
    index_count =
        ap (λ (q : ℕ). get_or (concat (word_count t) (word_part t)) q 0) (sym (add-zero (part_start t j)) ∙ ap (λ (n : ℕ). n + 0) (sym (parts_length j)))
        ∙ part_at (word_part t) (word_count t) j 0 0 l (omega arith)

    pub index_user : (p : ℕ) → p < length (users t j) → get_or (index_of t) (part_start t j + 1 + p) 0 ≡ get_or (users t j) p 0
    unfolding index_of
    index_user p h =
        let place : part_start t j + 1 + p ≡ length (concat j (word_part t)) + suc p = omega (arith, parts_length j) in
        ap (λ (q : ℕ). get_or (concat (word_count t) (word_part t)) q 0) place
        ∙ part_at (word_part t) (word_count t) j (suc p) 0 l (omega arith)

  -- every place is a count's, or a line's
  pub index_each : (P : ℕ → Type 0) → ((j : ℕ) → j < word_count t → P (part_start t j))
      → ((j : ℕ) → j < word_count t → (p : ℕ) → p < length (users t j) → P (part_start t j + 1 + p))
      → (q : ℕ) → q < length (index_of t) → P q
  unfolding index_of
  index_each P counts lines = part_each (word_part t) P (word_count t) at
    where
      at : (j : ℕ) → j < word_count t → (p : ℕ) → p < length (word_part t j) → P (length (concat j (word_part t)) + p)
      at j l zero h = subst P (sym (add-zero (length (concat j (word_part t))) ∙ parts_length j)) (counts j l)
      at j l (suc p) h =
          let place : part_start t j + 1 + p ≡ length (concat j (word_part t)) + suc p = omega (arith, parts_length j) in
          subst P place (lines j l p (omega arith))

pub parts_rise : PartsRise
parts_rise t = record { none_before = start_none t; next = start_next t }

pub parts_are_right : PartsAreRight
parts_are_right t j l = record {
  how_many = index_count t j l ∙ users_count t j;
  how_long = users_count t j;
  then_lines = index_user t j l;
}
