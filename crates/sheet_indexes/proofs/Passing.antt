-- The numbers below a bound that pass a test, as a list.
use Prim.Native.Nat.{ℕ, ◌+◌, ◌≤◌, ◌<◌}
use native.Mathlib.Decide.{dec_lt}
use native.Mathlib.Nat.{add-zero}
use native.Mathlib.Omega.{arith}
use mathlib.Core.Path.{◌≡◌, refl, sym, ap, subst, ◌∙◌}
use mathlib.Core.Bool.{Bool, true, false, cond, true≢false}
use mathlib.Core.List.{List, [], ◌∷◌}
use lib.ListN.{length, get_or}
use Rattle.words.specs.Words.{value}
use Rattle.words.specs.Below.{count, total, concat}
use Rattle.words.proofs.Below.{length_concat, total_cong}
use Rattle.words.proofs.LowBits.{count_total}
use Rattle.sheet_indexes.proofs.Parts.{part_fits, part_at, part_each}

module _ (p : ℕ → Bool) where
  -- a number that passes, alone; else nothing
  abbrev pub alone : ℕ → List ℕ
  alone i = cond (p i) (i ∷ []) []

  abbrev pub passing : ℕ → List ℕ
  passing b = concat b alone

  alone_length : (i : ℕ) → length (alone i) ≡ value (p i)
  alone_length i = at (p i)
    where
      at : (b : Bool) → length (cond b (i ∷ []) []) ≡ value b
      at true = refl
      at false = refl

  pub passing_count : (b : ℕ) → length (passing b) ≡ count b p
  passing_count b =
      length_concat b alone ∙ total_cong b (λ i. length (alone i)) (λ i. value (p i)) (λ i l. alone_length i) ∙ sym (count_total b p)

  -- a number that passes has a place behind those before it
  module _ (b i : ℕ) (l : i < b) (passes : p i ≡ true) where
    one : length (alone i) ≡ 1
    one = alone_length i ∙ ap value passes

    pub passing_inside : count i p < length (passing b)
    passing_inside = omega (arith, part_fits alone b i l, one, passing_count i)

    pub passing_at : get_or (passing b) (count i p) 0 ≡ i
    passing_at =
        ap (λ (q : ℕ). get_or (passing b) q 0) (sym (add-zero (count i p)) ∙ ap (λ (n : ℕ). n + 0) (sym (passing_count i)))
        ∙ part_at alone b i 0 0 l (omega (arith, one))
        ∙ ap (λ (c : Bool). get_or (cond c (i ∷ []) []) 0 0) passes

  -- and every place is that of such a number
  pub passing_each : (P : ℕ → Type 0) (b : ℕ) → ((i : ℕ) → i < b → p i ≡ true → P (count i p)) → (q : ℕ) → q < length (passing b) → P q
  passing_each P b each = part_each alone P b (λ i l q h. at i l q h (p i) refl)
    where
      at : (i : ℕ) → i < b → (q : ℕ) → q < length (alone i) → (c : Bool) → p i ≡ c → P (length (passing i) + q)
      at i l q h true passes =
          let here : count i p ≡ length (passing i) + q = omega (arith, passing_count i, alone_length i, ap value passes) in
          subst P here (each i l passes)
      at i l q h false fails = absurd (omega (arith, alone_length i, ap value fails))

  -- the higher number has no fewer before it
  pub count_grows : (i j : ℕ) → i ≤ j → count i p ≤ count j p
  count_grows i j h = at (dec_lt i j)
    where
      at : Dec (i < j) → count i p ≤ count j p
      at (yes less) = omega (arith, part_fits alone j i less, passing_count i, passing_count j)
      at (no same) = let e : i ≡ j = omega arith in omega (arith, ap (λ (n : ℕ). count n p) e)

  pub passing_ascends : (b q r : ℕ) → q < r → r < length (passing b) → get_or (passing b) q 0 < get_or (passing b) r 0
  passing_ascends b q r less inside =
      passing_each (λ q. q < r → get_or (passing b) q 0 < get_or (passing b) r 0) b
      (λ i l passes.
      passing_each (λ r. count i p < r → get_or (passing b) (count i p) 0 < get_or (passing b) r 0) b
      (λ j m too fewer. lower i j (passing_at b i l passes) (passing_at b j m too) fewer (dec_lt i j)) r inside)
      q (omega arith) less
    where
      lower : (i j : ℕ) {x y : ℕ} → x ≡ i → y ≡ j → count i p < count j p → Dec (i < j) → x < y
      lower i j e f fewer (yes h) = omega arith
      lower i j e f fewer (no h) = absurd (omega (arith, count_grows j i (omega arith)))
