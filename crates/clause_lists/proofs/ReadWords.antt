-- The words that an assignment's literals read, in each run; and when they are the words of the two runs from the starting value
-- that the assignment spells.
use mathlib.Core.Path.{◌≡◌, sym, ap, ap₂, subst, ◌∙◌}
use mathlib.Core.Bool.{Bool, true, xor}
use mathlib.Core.List.{List}
use Prim.Native.Nat.{ℕ, zero, suc, ◌+◌, ◌-◌, ◌^◌, ◌≤◌, ◌<◌}
use native.Mathlib.Decide.{dec_lt}
use native.Mathlib.Omega.{arith}
use lib.Bits.{bit_xor, xor_lt}
use lib.IntN.{pos}
use lib.ListN.{get_or}
use Rattle.words.specs.Words.{bit}
use Rattle.words.proofs.Below.{below_suc}
use Rattle.words.proofs.Bits.{from_bits_lt, bit_from_bits, from_bits_cong, from_bits_bit, word_ext, bit-xor, bit_xor_cancel}
use Rattle.trail.specs.Kinds.{makes}
use Rattle.trail.specs.Trail.{Trail, input_count, line_count, line_at, difference_at}
use Rattle.trail.specs.Runs.{run_word, partner, is_start, follows}
use Rattle.trail.specs.WellFormed.{WellFormed}
use Rattle.trail.proofs.Runs.{run_input, get_or_partner, start_length, second_below, run_line, run_word_lem, partner_start}
use Rattle.trail.proofs.Differences.{difference_input, difference_line, follows_words}
use Rattle.cnf.specs.Formulas.{variable, holds}
use Rattle.cnf.proofs.Clauses.{holds_signed}
use Rattle.clause_lists.specs.Variables.{Run, bit_variable, bit_literal}
use Rattle.clause_lists.specs.Variables.Run.{firstRun, secondRun}
use Rattle.clause_lists.specs.Assignments.{spelled, start_of}
use Rattle.clause_lists.proofs.OneRun.{read_word}
use Rattle.clause_lists.proofs.Spelled.{length_spelled, get_or_spelled, spelled_start}
use Rattle.clause_lists.proofs.TrailLiterals.{nonzero_bit}

-- the word that an assignment's literals of a run read
abbrev pub read_in : Trail → List Bool → Run → ℕ → ℕ
read_in t a run j = read_word (variable a) t.width (bit_literal t run j)

module _ {t : Trail} (good : WellFormed t) where
  -- words that begin as a start and are made line by line are the run's
  words_unique : (x : List ℕ) → is_start t x ≡ true → (f : ℕ → ℕ)
      → ((j : ℕ) → j < input_count t → f j ≡ get_or x j 0)
      → ((k : ℕ) → k < line_count t
      → f (input_count t + k) ≡ makes t.width (line_at t k) (f (line_at t k).first) (f (line_at t k).second))
      → (k : ℕ) → k ≤ line_count t → (j : ℕ) → j < input_count t + k → run_word t x j ≡ f j
  words_unique x start f begin made zero h j l =
      run_input t x j (omega (arith, start_length t x start)) ∙ sym (begin j (omega arith))
  words_unique x start f begin made (suc k) h j l = next (words_unique x start f begin made k (omega arith))
    where
      next : ((j : ℕ) → j < input_count t + k → run_word t x j ≡ f j) → run_word t x j ≡ f j
      next earlier =
          below_suc (λ j. run_word t x j ≡ f j) (input_count t + k) earlier
          (run_line good x start k h
          ∙ ap₂ (makes t.width (line_at t k))
          (earlier (line_at t k).first (good.lines_right k h).first_earlier)
          (earlier (line_at t k).second (second_below (good.lines_right k h)))
          ∙ sym (made k h))
          j
          (omega arith)

  difference_lt : (j : ℕ) → j < input_count t + line_count t → difference_at t j < 2 ^ t.width
  difference_lt j h = at (dec_lt j (input_count t))
    where
      at : Dec (j < input_count t) → difference_at t j < 2 ^ t.width
      at (yes less) = rw (difference_input t j less) (good.inputs_words j less)
      at (no more) =
          subst (λ (z : ℕ). difference_at t z < 2 ^ t.width) whole
          (rw (difference_line t (j - input_count t)) (good.lines_right (j - input_count t) (omega arith)).difference_word)
        where
          whole : input_count t + (j - input_count t) ≡ j
          whole = omega arith

  module _ (a : List Bool) where
    abbrev v : ℕ → Bool
    v = variable a

    -- ---- what the literals read

    pub first_bits : (j i : ℕ) → i < t.width → bit (read_in t a firstRun j) i ≡ v (bit_variable t j i)
    unfolding bit_literal holds
    first_bits j i h = bit_from_bits t.width (λ i. v (bit_variable t j i)) i h

    first_start : (j : ℕ) → j < input_count t → read_in t a firstRun j ≡ get_or (spelled t a) j 0
    unfolding bit_literal holds
    first_start j h = sym (get_or_spelled t a j h)

    -- the second run's literals read the first's word XOR the word's difference
    second_read : (j : ℕ) → j < input_count t + line_count t
        → read_in t a secondRun j ≡ bit_xor (read_in t a firstRun j) (difference_at t j)
    unfolding bit_literal
    second_read j h =
        word_ext t.width (read_in t a secondRun j) (bit_xor one (difference_at t j))
        (from_bits_lt t.width (λ i. holds v (bit_literal t secondRun j i)))
        (xor_lt t.width one (difference_at t j) (from_bits_lt t.width (λ i. holds v (pos (bit_variable t j i)))) (difference_lt j h))
        (λ i l.
        bit_from_bits t.width (λ i. holds v (bit_literal t secondRun j i)) i l
        ∙ holds_signed v (bit (difference_at t j) i) (pos (bit_variable t j i)) (nonzero_bit t firstRun j i)
        ∙ ap (λ (b : Bool). xor b (bit (difference_at t j) i))
        (sym (bit_from_bits t.width (λ i. holds v (pos (bit_variable t j i))) i l))
        ∙ sym (bit-xor one (difference_at t j) i))
      where
        one : ℕ
        one = read_in t a firstRun j

    pub starts : (run : Run) → is_start t (start_of t run (spelled t a)) ≡ true
    starts firstRun = spelled_start t a
    starts secondRun = partner_start good (spelled t a) (spelled_start t a)

    read_start : (run : Run) (j : ℕ) → j < input_count t → read_in t a run j ≡ get_or (start_of t run (spelled t a)) j 0
    read_start firstRun j h = first_start j h
    read_start secondRun j h =
        second_read j (omega arith)
        ∙ ap₂ bit_xor (first_start j h) (difference_input t j h)
        ∙ sym (get_or_partner t (spelled t a) j (omega (arith, length_spelled t a)))

    -- ---- the words read are the runs'

    abbrev pub Agrees : Type 0
    Agrees = (run : Run) (j : ℕ) → j < input_count t + line_count t → run_word t (start_of t run (spelled t a)) j ≡ read_in t a run j

    pub agrees_made : ((run : Run) (k : ℕ) → k < line_count t
        → read_in t a run (input_count t + k)
        ≡ makes t.width (line_at t k) (read_in t a run (line_at t k).first) (read_in t a run (line_at t k).second)) → Agrees
    agrees_made made run =
        words_unique (start_of t run (spelled t a)) (starts run) (read_in t a run) (read_start run) (made run) (line_count t) (omega arith)

    pub agrees_follows : Agrees → follows t (spelled t a) ≡ true
    agrees_follows agrees =
        (follows_words good (spelled t a) (starts firstRun)).1
        (λ j h.
        ap₂ bit_xor (agrees firstRun j h) (agrees secondRun j h ∙ second_read j h)
        ∙ bit_xor_cancel t.width (read_in t a firstRun j) (difference_at t j)
        (from_bits_lt t.width (λ i. holds v (bit_literal t firstRun j i)))
        (difference_lt j h))

    module _ (following : follows t (spelled t a) ≡ true)
        (words : (j : ℕ) → j < input_count t + line_count t → (i : ℕ) → i < t.width
        → v (bit_variable t j i) ≡ bit (run_word t (spelled t a) j) i) where
      first_given : (j : ℕ) → j < input_count t + line_count t → run_word t (spelled t a) j ≡ read_in t a firstRun j
      unfolding bit_literal holds
      first_given j h =
          sym (from_bits_bit t.width (run_word t (spelled t a) j) (run_word_lem good (spelled t a) (starts firstRun) j h))
          ∙ from_bits_cong t.width (bit (run_word t (spelled t a) j)) (λ i. v (bit_variable t j i)) (λ i l. sym (words j h i l))

      pub agrees_given : Agrees
      agrees_given firstRun j h = first_given j h
      agrees_given secondRun j h =
          sym
          (bit_xor_cancel t.width (run_word t (spelled t a) j) (run_word t (partner t (spelled t a)) j)
          (run_word_lem good (spelled t a) (starts firstRun) j h)
          (run_word_lem good (partner t (spelled t a)) (starts secondRun) j h))
          ∙ ap₂ bit_xor (first_given j h) ((follows_words good (spelled t a) (starts firstRun)).0 following j h)
          ∙ sym (second_read j h)
