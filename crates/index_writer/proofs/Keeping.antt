-- Numbers kept for the words, and one of them raised.
use Prim.Native.Nat.{ℕ, ◌+◌, ◌<◌}
use native.Mathlib.Decide.{ℕ_discrete}
use native.Mathlib.Omega.{arith}
use mathlib.Core.Path.{◌≡◌, sym, ap, ◌∙◌}
use mathlib.Core.List.{List}
use borrow.Author.Tests.{eq-eqb, ne_eqb}
use lib.Dec.{eqb}
use lib.ListN.{get_or, set, replicate, length-set, length-replicate, get_or-replicate}
use lib.Seq.{get_or-set_same, get_or-set_other}
use Rattle.words.specs.Words.{value}
use Rattle.trail.specs.WellFormed.{most_words}
use Rattle.index_writer.specs.Placing.{Kept}

-- an array of zeros
pub none_kept : Kept most_words (λ j. 0) (replicate most_words 0)
none_kept = record { long = length-replicate {A = ℕ} most_words 0; each = λ j h. get_or-replicate {A = ℕ} most_words j 0 0 h }

-- the same numbers, said otherwise
pub kept_as : {n : ℕ} {f g : ℕ → ℕ} {l : List ℕ} → ((j : ℕ) → f j ≡ g j) → Kept n f l → Kept n g l
kept_as same k = record { long = k.long; each = λ j h. k.each j h ∙ same j }

-- one more for word w
pub kept_raised : {n : ℕ} {f : ℕ → ℕ} {l : List ℕ} (w : ℕ) → w < most_words → Kept n f l
    → Kept n (λ j. f j + value (eqb w j)) (set l w (get_or l w 0 + 1))
kept_raised {n} {f} {l} w inside k = record {
  long = length-set l w (get_or l w 0 + 1) ∙ k.long;
  each = λ j h. at j h (ℕ_discrete w j);
}
  where
    at : (j : ℕ) → j < n → Dec (w ≡ j) → get_or (set l w (get_or l w 0 + 1)) j 0 ≡ f j + value (eqb w j)
    at j h (yes e) =
        ap (λ (i : ℕ). get_or (set l w (get_or l w 0 + 1)) i 0) (sym e)
        ∙ get_or-set_same l w (get_or l w 0 + 1) 0 (omega (arith, k.long))
        ∙ ap (λ (i : ℕ). get_or l i 0 + 1) e
        ∙ omega (arith, k.each j h, ap value (eq-eqb w j e))
    at j h (no other) =
        get_or-set_other l w j (get_or l w 0 + 1) 0 (λ e. other (sym e)) ∙ omega (arith, k.each j h, ap value (ne_eqb w j other))
