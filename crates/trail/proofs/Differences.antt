-- The difference of each word, and the two runs that follow it.
use mathlib.Core.Path.{◌≡◌, sym, ap₂, subst, ◌∙◌}
use mathlib.Core.Logic.{◌↔◌}
use mathlib.Core.Bool.{true}
use mathlib.Core.List.{List, map}
use Prim.Native.Nat.{ℕ, ◌+◌, ◌-◌, ◌<◌}
use native.Mathlib.Decide.{dec_lt}
use native.Mathlib.Omega.{arith}
use lib.Bits.{bit_xor}
use lib.ListN.{length, get_or, get_or-append, get_or-map}
use lib.Seq.{get_or-append-add}
use Rattle.words.proofs.Bits.{bit_xor_cancel}
use Rattle.trail.specs.declared.Line.{Line}
use Rattle.trail.specs.Trail.{Trail, input_count, line_count, no_line, line_at, difference_at}
use Rattle.trail.specs.WellFormed.{WellFormed}
use Rattle.trail.specs.Runs.{run_word, partner, is_start, follows}
use Rattle.trail.proofs.Runs.{run_input, length_partner, get_or_partner, start_length, start_word, follows_line}

module _ (t : Trail) where
  pub difference_input : (j : ℕ) → j < input_count t → difference_at t j ≡ get_or t.inputs j 0
  unfolding difference_at
  difference_input j h = get_or-append t.inputs _ 0 j h

  pub difference_line : (k : ℕ) → difference_at t (input_count t + k) ≡ (line_at t k).difference
  unfolding difference_at line_at
  difference_line k =
      get_or-append-add t.inputs (map (λ (l : Line). l.difference) t.lines) k 0
      ∙ get_or-map (λ (l : Line). l.difference) t.lines k no_line

module _ {t : Trail} (good : WellFormed t) (x : List ℕ) (start : is_start t x ≡ true) where
  abbrev Differs : ℕ → Type 0
  Differs j = bit_xor (run_word t x j) (run_word t (partner t x) j) ≡ difference_at t j

  -- the starts differ by the input differences
  differs_input : (j : ℕ) → j < input_count t → Differs j
  differs_input j h =
      ap₂ bit_xor (run_input t x j here)
      (run_input t (partner t x) j (omega (arith, here, length_partner t x)) ∙ get_or_partner t x j here)
      ∙ bit_xor_cancel t.width (get_or x j 0) (get_or t.inputs j 0) (start_word t x start j h) (good.inputs_words j h)
      ∙ sym (difference_input t j h)
    where
      here : j < length x
      here = omega (arith, start_length t x start)

  -- two runs that follow differ by each word's difference
  pub follows_words : (follows t x ≡ true)
      ↔ ((j : ℕ) → j < input_count t + line_count t → bit_xor (run_word t x j) (run_word t (partner t x) j) ≡ difference_at t j)
  follows_words = (
    λ h j l. at (λ k b. (follows_line t x).0 h k b ∙ sym (difference_line t k)) j l (dec_lt j (input_count t)),
    λ h. (follows_line t x).1 (λ k l. h (input_count t + k) (omega arith) ∙ difference_line t k),
  )
    where
      at : ((k : ℕ) → k < line_count t → Differs (input_count t + k))
          → (j : ℕ) → j < input_count t + line_count t → Dec (j < input_count t) → Differs j
      at h j l (yes less) = differs_input j less
      at h j l (no more) = subst Differs whole (h (j - input_count t) (omega arith))
        where
          whole : input_count t + (j - input_count t) ≡ j
          whole = omega arith
