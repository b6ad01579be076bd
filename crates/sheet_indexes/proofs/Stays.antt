-- With a stated difference replaced, each line names the words that it named.
use Prim.Native.Nat.{ℕ, ◌+◌, ◌<◌, ◌≤◌}
use native.Mathlib.Decide.{dec_lt, ℕ_discrete}
use native.Mathlib.Omega.{arith}
use mathlib.Core.Path.{◌≡◌, refl, sym, ap, ◌∙◌}
use mathlib.Core.Bool.{Bool, cond}
use mathlib.Core.List.{List, [], ◌∷◌}
use lib.ListN.{length, set}
use lib.Seq.{set_out}
use Rattle.words.specs.Below.{concat}
use Rattle.words.proofs.Below.{concat_cong}
use Rattle.trail.specs.declared.Line.{Line}
use Rattle.trail.specs.Trail.{Trail, input_count, line_count, line_at}
use Rattle.trail.specs.Changing.{stating, with_difference}
use Rattle.trail.proofs.Changed.{changed_count, line_other, line_changed}
use Rattle.sheet_indexes.specs.Users.{names_word, users}
use Rattle.sheet_indexes.specs.Index.{word_part, word_count, index_of}
use Rattle.sheet_indexes.specs.Stays.{IndexStays}

-- which words a line names does not depend on what it states
names_stating : (l : Line) (d j : ℕ) → names_word (stating l d) j ≡ names_word l j
unfolding names_word
names_stating l d j = refl

module _ (t : Trail) (k d : ℕ) where
  -- past the last line nothing is replaced
  pub past_last_lem : line_count t ≤ k → with_difference t k d ≡ t
  past_last_lem past =
      let lines = set_out t.lines k (stating (line_at t k) d) past in
      λ i. record { width = t.width; inputs = t.inputs; lines = lines i }

  pub names_stay : (i j : ℕ) → names_word (line_at (with_difference t k d) i) j ≡ names_word (line_at t i) j
  names_stay i j = at (ℕ_discrete i k) (dec_lt k (line_count t))
    where
      at : Dec (i ≡ k) → Dec (k < line_count t) → names_word (line_at (with_difference t k d) i) j ≡ names_word (line_at t i) j
      at (no other) known = ap (λ (l : Line). names_word l j) (line_other t k d i other)
      at (yes e) (yes known) =
          ap (λ (n : ℕ). names_word (line_at (with_difference t k d) n) j) e
          ∙ ap (λ (l : Line). names_word l j) (line_changed t k d known)
          ∙ names_stating (line_at t k) d j
          ∙ ap (λ (n : ℕ). names_word (line_at t n) j) (sym e)
      at (yes e) (no past) = ap (λ (r : Trail). names_word (line_at r i) j) (past_last_lem (omega arith))

  pub users_stay : (j : ℕ) → users (with_difference t k d) j ≡ users t j
  unfolding users
  users_stay j =
      ap (λ (n : ℕ). concat n (λ i. cond (names_word (line_at (with_difference t k d) i) j) (i ∷ []) [])) (changed_count t k d)
      ∙ concat_cong (line_count t) _ _ (λ i l. ap (λ (b : Bool). cond b (i ∷ []) []) (names_stay i j))

pub index_stays : IndexStays
unfolding index_of
index_stays t k d =
    ap (λ (n : ℕ). concat (input_count t + n) (word_part (with_difference t k d))) (changed_count t k d)
    ∙ concat_cong (word_count t) _ _ (λ j l. ap (λ (u : List ℕ). length u ∷ u) (users_stay t k d j))
