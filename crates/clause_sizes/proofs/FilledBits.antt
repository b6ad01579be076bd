-- In how many bits of a line a zero is filled in: of a shift in as many as its amount says, at one end of the word, and else in none.
use Prim.Native.Nat.{ℕ, ◌+◌, ◌-◌, ◌≤◌, ◌<◌}
use native.Mathlib.Decide.{ℕ_discrete}
use native.Mathlib.Omega.{arith}
use mathlib.Core.Path.{◌≡◌, sym, ap, ap₂, ◌∙◌}
use mathlib.Core.Logic.{◌≢◌}
use mathlib.Core.Bool.{Bool, true, false}
use borrow.Author.Tests.{lt-ltb, le-ltb, le-leb, lt-leb}
use lib.Dec.{ltb, leb}
use Rattle.words.specs.Below.{count}
use Rattle.words.proofs.Below.{count_all, count_none, count_split, count_cong}
use Rattle.trail.specs.declared.Line.{Line}
use Rattle.trail.specs.Kinds.{kind_of}
use Rattle.trail.specs.WellFormed.{WellFormedLine}
use Rattle.trail.proofs.KindNumbers.{known_within}
use Rattle.trail.proofs.KindTests.{amount_of_shift}
use Rattle.clause_lists.specs.Kinds.{is_filled, gates}
use Rattle.clause_lists.specs.Sizes.{filled_bits}
use Rattle.run_literals.proofs.KindRows.{unfilled, left_filled, right_filled}

-- a test that all of the first a numbers pass, and none of the b after them; and the other way round
count_first : (a b : ℕ) (p : ℕ → Bool) → ((i : ℕ) → i < a → p i ≡ true) → ((i : ℕ) → i < b → p (a + i) ≡ false) → count (a + b) p ≡ a
count_first a b p pass fail =
    count_split a b p ∙ ap₂ ◌+◌ (count_all a p pass) (count_none b (λ i. p (a + i)) fail) ∙ omega arith

count_last : (a b : ℕ) (p : ℕ → Bool) → ((i : ℕ) → i < a → p i ≡ false) → ((i : ℕ) → i < b → p (a + i) ≡ true) → count (a + b) p ≡ b
count_last a b p fail pass =
    count_split a b p ∙ ap₂ ◌+◌ (count_none a p fail) (count_all b (λ i. p (a + i)) pass) ∙ omega arith

module _ (n : ℕ) (l : Line) where
  abbrev r : ℕ
  r = l.amount

  abbrev filled : ℕ → Bool
  filled i = is_filled ((gates (kind_of l.kind)).taken n r i)

  left_shift_fills : l.kind ≡ 7 → r ≤ n → filled_bits n l ≡ r
  unfolding filled_bits
  left_shift_fills e h =
      count_cong n filled (λ i. ltb i r) (λ i _. sym (left_filled l.kind n r i e))
      ∙ ap (λ (z : ℕ). count z (λ i. ltb i r)) parts
      ∙ count_first r (n - r) (λ i. ltb i r) (λ i less. lt-ltb i r less) (λ i less. le-ltb (r + i) r (omega arith))
    where
      parts : n ≡ r + (n - r)
      parts = omega arith

  right_shift_fills : l.kind ≡ 8 → r ≤ n → filled_bits n l ≡ r
  unfolding filled_bits
  right_shift_fills e h =
      count_cong n filled (λ i. leb n (i + r)) (λ i _. sym (right_filled l.kind n r i e))
      ∙ ap (λ (z : ℕ). count z (λ i. leb n (i + r))) parts
      ∙ count_last (n - r) r (λ i. leb n (i + r)) (λ i less. lt-leb n (i + r) (omega arith)) (λ i less. le-leb n (n - r + i + r) (omega arith))
    where
      parts : n ≡ n - r + r
      parts = omega arith

  pub shifts_fill : {j : ℕ} → WellFormedLine n j l → 7 ≤ l.kind → l.kind < 9 → (r ≡ filled_bits n l) × (r ≤ n)
  shifts_fill good least most = (sym (at (ℕ_discrete l.kind 7)), within)
    where
      within : r ≤ n
      within = omega (arith, good.amount_most (amount_of_shift l.kind least most))

      at : Dec (l.kind ≡ 7) → filled_bits n l ≡ r
      at (yes e) = left_shift_fills e within
      at (no other) = right_shift_fills (omega arith) within

  pub others_fill_none : {j : ℕ} → WellFormedLine n j l → l.kind ≢ 7 → l.kind ≢ 8 → (0 ≡ filled_bits n l) × (0 ≤ n)
  unfolding filled_bits
  others_fill_none good left right =
      let within = known_within l.kind good.kind_known in
      (sym (count_none n filled (λ i _. unfilled l.kind n r i within.0 within.1 left right)), omega arith)
