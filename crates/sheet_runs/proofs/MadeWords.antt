-- The words of a run in its array: what is there at the start, and after each line.
use Prim.Native.Nat.{ℕ, ◌+◌, ◌^◌, ◌≤◌, ◌<◌}
use native.Mathlib.Omega.{arith}
use mathlib.Core.Path.{◌≡◌, sym, ap₂, ◌∙◌, subst}
use mathlib.Core.Bool.{true}
use mathlib.Core.List.{List}
use borrow.Author.Count.{below_none}
use lib.Bits.{bit_xor}
use lib.ListN.{length, get_or, set, length-set}
use lib.Seq.{get_or-set_same, get_or-set_other}
use Rattle.words.specs.Words.{bit}
use Rattle.words.proofs.Below.{below_suc}
use Rattle.words.proofs.Bits.{bit-xor}
use Rattle.trail.specs.Kinds.{makes}
use Rattle.trail.specs.Trail.{Trail, input_count, line_count, line_at}
use Rattle.trail.specs.WellFormed.{WellFormed, most_words}
use Rattle.trail.specs.Runs.{word_of_line, run_word, partner, is_start}
use Rattle.trail.proofs.Runs.{second_below, run_line, run_word_lem, partner_start}
use Rattle.sheet_runs.specs.Outcome.{result_difference, disagrees}
use Rattle.sheet_runs.specs.Facts.{Holds, Made, with_line}

module _ (t : Trail) (x : List ℕ) where
  pub made_none : (words : List ℕ) → length words ≡ most_words → Made t x 0 words
  made_none words e = record { room = e; same = below_none (λ j. get_or words j 0 ≡ run_word t x j) }

  -- the next word in its place
  pub made_next : (made word : ℕ) (words : List ℕ) → made < most_words → Made t x made words → word ≡ run_word t x made → Made t x (made + 1) (set words made word)
  made_next made word words less m e = record {
    room = length-set words made word ∙ m.room;
    same = λ j l. below_suc (λ j. get_or (set words made word) j 0 ≡ run_word t x j) made
        (λ j h. get_or-set_other words made j word 0 (λ same. omega arith) ∙ m.same j h)
        (get_or-set_same words made word 0 (omega (arith, m.room)) ∙ e)
        j (omega arith);
  }

module _ {t : Trail} (good : WellFormed t) (x : List ℕ) (start : is_start t x ≡ true) where
  pub made_holds : (made : ℕ) (words : List ℕ) → made ≤ input_count t + line_count t → Made t x made words → Holds t.width made words
  made_holds made words most m = record {
    room = m.room;
    word = λ j h. subst (λ (w : ℕ). w < 2 ^ t.width) (sym (m.same j h)) (run_word_lem good x start j (omega arith));
  }

  -- line k makes the run's word
  pub line_makes : (k : ℕ) (words : List ℕ) → k < line_count t → Made t x (input_count t + k) words → word_of_line t k words ≡ run_word t x (input_count t + k)
  unfolding word_of_line
  line_makes k words h m =
      ap₂ (makes t.width (line_at t k))
      (m.same (line_at t k).first (good.lines_right k h).first_earlier)
      (m.same (line_at t k).second (second_below (good.lines_right k h)))
      ∙ sym (run_line good x start k h)

  pub made_line : (k : ℕ) {words after : List ℕ} → k < line_count t → input_count t + k < most_words → Made t x (input_count t + k) words
      → after ≡ with_line t k words → Made t x (input_count t + (k + 1)) after
  made_line k {words} h less m e =
      subst (Made t x (input_count t + (k + 1))) (sym e)
      (subst (λ (made : ℕ). Made t x made (with_line t k words)) one_more
      (made_next t x (input_count t + k) (word_of_line t k words) words less m (line_makes k words h m)))
    where
      one_more : input_count t + k + 1 ≡ input_count t + (k + 1)
      one_more = omega arith

-- the bits where line k's results disagree with its difference, from the words made before it
pub apart_bit : {t : Trail} (good : WellFormed t) (x : List ℕ) → is_start t x ≡ true → (k : ℕ) {first second : List ℕ} → k < line_count t
    → Made t x (input_count t + k) first → Made t (partner t x) (input_count t + k) second
    → (i : ℕ) → bit (bit_xor (bit_xor (word_of_line t k first) (word_of_line t k second)) (line_at t k).difference) i ≡ disagrees t x k i
unfolding disagrees result_difference
apart_bit {t} good x start k {first} {second} h p q i =
    ap₂ (λ (v w : ℕ). bit (bit_xor (bit_xor v w) (line_at t k).difference) i)
    (line_makes good x start k first h p)
    (line_makes good (partner t x) (partner_start good x start) k second h q)
    ∙ bit-xor (bit_xor (run_word t x (input_count t + k)) (run_word t (partner t x) (input_count t + k))) (line_at t k).difference i
