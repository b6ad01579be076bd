-- The words of a run: how many, which stay, what each is, and what it is for two runs to follow.
use mathlib.Core.Path.{◌≡◌, refl, sym, ap, ap₂, ◌∙◌}
use mathlib.Core.Logic.{◌↔◌}
use mathlib.Core.Bool.{Bool, true, false, and-eq-true_iff}
use mathlib.Core.List.{List, [], ◌∷◌}
use Prim.Native.Nat.{ℕ, zero, suc, ◌+◌, ◌-◌, ◌^◌, ◌≤◌, ◌<◌}
use native.Mathlib.Nat.{add-zero, add-suc}
use native.Mathlib.Omega.{arith}
use borrow.Author.Tests.{eqb-true, eq-eqb, ltb-true, lt-ltb}
use lib.Bits.{bit_xor, xor_lt}
use lib.Dec.{eqb}
use lib.ListN.{length, get_or, length-append, get_or-append}
use lib.Seq.{get_or_at}
use Rattle.words.specs.Words.{is_word}
use Rattle.words.specs.Below.{all}
use Rattle.words.proofs.Below.{below_suc, all_true, all_yes_lem, length_tabulate, get_d_tabulate}
use Rattle.trail.specs.declared.Line.{Line}
use Rattle.trail.specs.Kinds.{kind_of, uses_second, makes}
use Rattle.trail.specs.Trail.{Trail, input_count, line_count, line_at}
use Rattle.trail.specs.WellFormed.{WellFormedLine, WellFormed}
use Rattle.trail.specs.Runs.{word_of_line, words_after, run_word, partner, is_start, line_follows, follows}
use Rattle.trail.proofs.Makes.{makes_word}

-- ---- any list of words as the start

module _ (t : Trail) (x : List ℕ) where
  pub length_words_after : (k : ℕ) → length (words_after t x k) ≡ length x + k
  unfolding words_after
  length_words_after zero = sym (add-zero (length x))
  length_words_after (suc k) =
      length-append (words_after t x k) (word_of_line t k (words_after t x k) ∷ []) ∙ omega (arith, length_words_after k)

  -- a line leaves the words before it as they are
  pub words_stay : (k d j : ℕ) → j < length x + k → get_or (words_after t x (k + d)) j 0 ≡ get_or (words_after t x k) j 0
  unfolding words_after
  words_stay k zero j h = ap (λ (z : ℕ). get_or (words_after t x z) j 0) (add-zero k)
  words_stay k (suc d) j h =
      ap (λ (z : ℕ). get_or (words_after t x z) j 0) (add-suc k d)
      ∙ get_or-append (words_after t x (k + d)) (word_of_line t (k + d) (words_after t x (k + d)) ∷ []) 0 j
      (omega (arith, length_words_after (k + d)))
      ∙ words_stay k d j h

  -- and adds its own
  word_added : (k : ℕ) → get_or (words_after t x (suc k)) (length x + k) 0 ≡ word_of_line t k (words_after t x k)
  unfolding words_after
  word_added k =
      get_or_at (words_after t x k) (word_of_line t k (words_after t x k)) [] 0 (length x + k) (length_words_after k)

  -- a word of the whole run is there as soon as it is made
  pub word_when_made : (k j : ℕ) → k ≤ line_count t → j < length x + k → run_word t x j ≡ get_or (words_after t x k) j 0
  unfolding run_word
  word_when_made k j h l = ap (λ (z : ℕ). get_or (words_after t x z) j 0) parts ∙ words_stay k (line_count t - k) j l
    where
      parts : line_count t ≡ k + (line_count t - k)
      parts = omega arith

  pub run_input : (j : ℕ) → j < length x → run_word t x j ≡ get_or x j 0
  unfolding words_after
  run_input j h = word_when_made 0 j (omega arith) (omega arith)

  -- ---- two runs

  pub length_partner : length (partner t x) ≡ length x
  unfolding partner
  length_partner = simp length_tabulate

  pub get_or_partner : (j : ℕ) → j < length x → get_or (partner t x) j 0 ≡ bit_xor (get_or x j 0) (get_or t.inputs j 0)
  unfolding partner
  get_or_partner j h = get_d_tabulate (length x) (λ j. bit_xor (get_or x j 0) (get_or t.inputs j 0)) j 0 h

  pub follows_line : (follows t x ≡ true)
      ↔ ((k : ℕ) → k < line_count t
      → bit_xor (run_word t x (input_count t + k)) (run_word t (partner t x) (input_count t + k)) ≡ (line_at t k).difference)
  unfolding follows line_follows
  follows_line = (
    λ h k l. eqb-true (differ k) (line_at t k).difference (all_true (line_count t) (line_follows t x) h k l),
    λ h. all_yes_lem (line_count t) (line_follows t x) (λ k l. eq-eqb (differ k) (line_at t k).difference (h k l)),
  )
    where
      differ : ℕ → ℕ
      differ k = bit_xor (run_word t x (input_count t + k)) (run_word t (partner t x) (input_count t + k))

  -- ---- a start

  abbrev is_word_at : ℕ → Bool
  is_word_at j = is_word t.width (get_or x j 0)

  pub start_length : is_start t x ≡ true → length x ≡ input_count t
  unfolding is_start
  start_length s =
      eqb-true (length x) (input_count t) ((and-eq-true_iff (eqb (length x) (input_count t)) (all (length x) is_word_at)).0 s).0

  pub start_word : is_start t x ≡ true → (j : ℕ) → j < input_count t → get_or x j 0 < 2 ^ t.width
  unfolding is_start
  start_word s j h =
      ltb-true (get_or x j 0) (2 ^ t.width)
      (all_true (length x) is_word_at ((and-eq-true_iff (eqb (length x) (input_count t)) (all (length x) is_word_at)).0 s).1 j
      (omega (arith, start_length s)))

  pub start_yes : length x ≡ input_count t → ((j : ℕ) → j < input_count t → get_or x j 0 < 2 ^ t.width) → is_start t x ≡ true
  unfolding is_start
  start_yes e h =
      (and-eq-true_iff (eqb (length x) (input_count t)) (all (length x) is_word_at)).1 (
        eq-eqb (length x) (input_count t) e,
        all_yes_lem (length x) is_word_at (λ j l. lt-ltb (get_or x j 0) (2 ^ t.width) (h j (omega arith))),
      )

-- ---- well-formed trails

-- also an operand that is not used, written 0, is an earlier word
pub second_below : {n j : ℕ} {l : Line} → WellFormedLine n j l → l.second < j
second_below {n} {j} {l} w = at (uses_second (kind_of l.kind)) refl
  where
    at : (used : Bool) → uses_second (kind_of l.kind) ≡ used → l.second < j
    at true e = w.second_earlier e
    at false e = omega (arith, w.second_unused e, w.first_earlier)

module _ {t : Trail} (good : WellFormed t) (x : List ℕ) (start : is_start t x ≡ true) where
  -- line k's result, from the run's own words
  pub run_line : (k : ℕ) → k < line_count t
      → run_word t x (input_count t + k)
      ≡ makes t.width (line_at t k) (run_word t x (line_at t k).first) (run_word t x (line_at t k).second)
  unfolding word_of_line
  run_line k h =
      word_when_made t x (suc k) (input_count t + k) h (omega (arith, count))
      ∙ ap (λ (z : ℕ). get_or (words_after t x (suc k)) (z + k) 0) (sym count)
      ∙ word_added t x k
      ∙ ap₂ (makes t.width (line_at t k))
      (operand (line_at t k).first line.first_earlier)
      (operand (line_at t k).second (second_below line))
    where
      count : length x ≡ input_count t
      count = start_length t x start

      line : WellFormedLine t.width (input_count t + k) (line_at t k)
      line = good.lines_right k h

      operand : (j : ℕ) → j < input_count t + k → get_or (words_after t x k) j 0 ≡ run_word t x j
      operand j l = sym (word_when_made t x k j (omega arith) (omega (arith, count)))

  line_word : (k : ℕ) → k < line_count t → ((j : ℕ) → j < input_count t + k → run_word t x j < 2 ^ t.width)
      → run_word t x (input_count t + k) < 2 ^ t.width
  line_word k h earlier =
      rw (run_line k h)
      (makes_word line (run_word t x (line_at t k).first) (run_word t x (line_at t k).second)
      (earlier (line_at t k).first line.first_earlier)
      (earlier (line_at t k).second (second_below line)))
    where
      line : WellFormedLine t.width (input_count t + k) (line_at t k)
      line = good.lines_right k h

  words_below : (k : ℕ) → k ≤ line_count t → (j : ℕ) → j < input_count t + k → run_word t x j < 2 ^ t.width
  words_below zero h j l = rw (run_input t x j (omega (arith, start_length t x start))) (start_word t x start j (omega arith))
  words_below (suc k) h j l =
      below_suc (λ j. run_word t x j < 2 ^ t.width) (input_count t + k) (words_below k (omega arith))
      (line_word k h (words_below k (omega arith)))
      j
      (omega arith)

  -- each word of a run is below 2 ^ n
  pub run_word_lem : (j : ℕ) → j < input_count t + line_count t → run_word t x j < 2 ^ t.width
  run_word_lem = words_below (line_count t) (omega arith)

  pub partner_start : is_start t (partner t x) ≡ true
  partner_start = start_yes t (partner t x) (length_partner t x ∙ start_length t x start) word
    where
      word : (j : ℕ) → j < input_count t → get_or (partner t x) j 0 < 2 ^ t.width
      word j h =
          rw (get_or_partner t x j (omega (arith, start_length t x start)))
          (xor_lt t.width (get_or x j 0) (get_or t.inputs j 0) (start_word t x start j h) (good.inputs_words j h))
