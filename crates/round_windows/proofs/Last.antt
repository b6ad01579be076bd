-- One more than the last number that passes a test.
use Prim.Native.Nat.{ℕ, zero, suc, ◌+◌, ◌≤◌, ◌<◌}
use native.Mathlib.Numerals.{add-one}
use native.Mathlib.Omega.{arith}
use mathlib.Core.Path.{◌≡◌, refl, sym, ap, ◌∙◌}
use mathlib.Core.Bool.{Bool, true, false, ◌||◌, cond, or-true, or-false, true≢false}
use borrow.Author.Tests.{lt-ltb, le-ltb}
use lib.Dec.{ltb}
use Rattle.words.specs.Below.{any}
use Rattle.round_windows.specs.Last.{past_last}

pub last_none : (p : ℕ → Bool) → past_last 0 p ≡ 0
unfolding past_last
last_none p = refl

pub last_next : (b : ℕ) (p : ℕ → Bool) → past_last (b + 1) p ≡ cond (p b) (b + 1) (past_last b p)
unfolding past_last
last_next b p = rw add-one

pub last_le : (b : ℕ) (p : ℕ → Bool) → past_last b p ≤ b
unfolding past_last
last_le zero p = omega arith
last_le (suc b) p = at (p b) (last_le b p)
  where
    at : (t : Bool) → past_last b p ≤ b → cond t (suc b) (past_last b p) ≤ suc b
    at true h = omega arith
    at false h = omega arith

-- it passes
pub last_passes : (b : ℕ) (p : ℕ → Bool) (i : ℕ) → past_last b p ≡ i + 1 → p i ≡ true
unfolding past_last
last_passes zero p i e = absurd (omega arith)
last_passes (suc b) p i e = at (p b) refl e (last_passes b p i)
  where
    at : (t : Bool) → p b ≡ t → cond t (suc b) (past_last b p) ≡ i + 1 → (past_last b p ≡ i + 1 → p i ≡ true) → p i ≡ true
    at true here d before = let same : i ≡ b = omega arith in ap p same ∙ here
    at false here d before = before d

-- of the numbers from a number on, some passes exactly if the last that passes is among them
pub last_from : (from k : ℕ) (p : ℕ → Bool) → any k (λ i. p (from + i)) ≡ ltb from (past_last (from + k) p)
unfolding any past_last
last_from from zero p = sym (le-ltb from (past_last (from + 0) p) (omega (arith, last_le (from + 0) p)))
last_from from (suc k) p = at (p (from + k)) refl (last_from from k p) ∙ ap (λ (b : ℕ). ltb from (past_last b p)) next
  where
    next : suc (from + k) ≡ from + suc k
    next = omega arith

    at : (t : Bool) → p (from + k) ≡ t → any k (λ i. p (from + i)) ≡ ltb from (past_last (from + k) p)
        → (any k (λ i. p (from + i)) || p (from + k)) ≡ ltb from (cond (p (from + k)) (suc (from + k)) (past_last (from + k) p))
    at true here before = rw (here, or-true) (sym (lt-ltb from (suc (from + k)) (omega arith)))
    at false here before = rw (here, or-false) before

-- the last that passes a narrower test is found from the last that passes the wider one
pub last_narrower : (b : ℕ) (q p : ℕ → Bool) → ((j : ℕ) → q j ≡ true → p j ≡ true) → past_last b q ≡ past_last (past_last b p) q
unfolding past_last
last_narrower zero q p h = refl
last_narrower (suc b) q p h = at (p b) refl (last_narrower b q p h)
  where
    at : (t : Bool) → p b ≡ t → past_last b q ≡ past_last (past_last b p) q
        → past_last (suc b) q ≡ past_last (cond (p b) (suc b) (past_last b p)) q
    at true here before = rw here refl
    at false here before = rw here (missed (q b) refl ∙ before)
      where
        missed : (u : Bool) → q b ≡ u → cond (q b) (suc b) (past_last b q) ≡ past_last b q
        missed false e = rw e refl
        missed true e = absurd (true≢false (sym (h b e) ∙ here))
