-- A starting value that follows gives each line operand values that fit it: so none follows where a line is impossible.
use Prim.Native.Nat.{ℕ, ◌+◌, ◌^◌, ◌<◌}
use native.Mathlib.Omega.{arith}
use mathlib.Core.Path.{◌≡◌, refl, sym, ap, ap₂, ◌∙◌}
use mathlib.Core.Bool.{Bool, true, false, true≢false}
use mathlib.Core.List.{List}
use borrow.Author.Tests.{eq-eqb}
use lib.Bits.{bit_xor, xor_comm}
use Rattle.words.proofs.Bits.{bit_xor_cancel}
use Rattle.trail.specs.Kinds.{makes}
use Rattle.trail.specs.Trail.{Trail, input_count, line_count, line_at, difference_at}
use Rattle.trail.specs.WellFormed.{WellFormed, WellFormedLine}
use Rattle.trail.specs.Runs.{run_word, partner, is_start, follows}
use Rattle.trail.proofs.Runs.{run_line, run_word_lem, partner_start, follows_line, second_below}
use Rattle.trail.proofs.Differences.{follows_words}
use Rattle.differential.specs.Fits.{fits}
use Rattle.trail_reports.specs.Lines.{differential_of}

module _ {t : Trail} (good : WellFormed t) (x : List ℕ) (start : is_start t x ≡ true) (following : follows t x ≡ true) where
  -- the second run's words
  second_word : (j : ℕ) → j < input_count t + line_count t
      → run_word t (partner t x) j ≡ bit_xor (run_word t x j) (difference_at t j)
  second_word j l =
      sym (bit_xor_cancel t.width (run_word t x j) (run_word t (partner t x) j) (run_word_lem good x start j l)
      (run_word_lem good (partner t x) (partner_start good x start) j l))
      ∙ ap (bit_xor (run_word t x j)) ((follows_words good x start).0 following j l)

  module _ (k : ℕ) (below : k < line_count t) where
    line : WellFormedLine t.width (input_count t + k) (line_at t k)
    line = good.lines_right k below

    pub operands_fit : fits (differential_of t k) (run_word t x (line_at t k).first) (run_word t x (line_at t k).second) ≡ true
    unfolding fits differential_of
    operands_fit =
        eq-eqb _ _
        (ap₂ bit_xor second (sym (run_line good x start k below))
        ∙ xor_comm (run_word t (partner t x) (input_count t + k)) (run_word t x (input_count t + k))
        ∙ (follows_line t x).0 following k below)
      where
        second : makes t.width (line_at t k) (bit_xor (run_word t x (line_at t k).first) (difference_at t (line_at t k).first))
            (bit_xor (run_word t x (line_at t k).second) (difference_at t (line_at t k).second))
            ≡ run_word t (partner t x) (input_count t + k)
        second =
            ap₂ (makes t.width (line_at t k))
            (sym (second_word (line_at t k).first (omega (arith, line.first_earlier))))
            (sym (second_word (line_at t k).second (omega (arith, second_below line))))
            ∙ sym (run_line good (partner t x) (partner_start good x start) k below)

-- no operand values fit the line: no starting value follows
pub none_follows : {t : Trail} → WellFormed t → (k : ℕ) → k < line_count t
    → ((x y : ℕ) → x < 2 ^ (differential_of t k).width → y < 2 ^ (differential_of t k).width → fits (differential_of t k) x y ≡ false)
    → (x : List ℕ) → is_start t x ≡ true → follows t x ≡ false
unfolding differential_of
none_follows {t} good k below none x start = at (follows t x) (λ e. e)
  where
    line : WellFormedLine t.width (input_count t + k) (line_at t k)
    line = good.lines_right k below

    at : (b : Bool) → (b ≡ true → follows t x ≡ true) → b ≡ false
    at false h = refl
    at true h =
        absurd (true≢false (sym (operands_fit good x start (h refl) k below)
        ∙ none _ _ (run_word_lem good x start (line_at t k).first (omega (arith, line.first_earlier)))
        (run_word_lem good x start (line_at t k).second (omega (arith, second_below line)))))
