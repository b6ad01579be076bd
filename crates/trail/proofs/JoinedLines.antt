-- The lines, words and differences of a joined trail.
use mathlib.Core.Path.{◌≡◌, sym, ap, ◌∙◌}
use mathlib.Core.List.{List, map}
use Prim.Native.Nat.{ℕ, ◌+◌, ◌<◌, ◌≤◌}
use native.Mathlib.Omega.{arith}
use borrow.Author.Tests.{lt-ltb, le-ltb}
use lib.ListN.{length-append, length-map, get_or-append, get_or-eq_default}
use lib.Seq.{get_or-append-add}
use Rattle.words.proofs.Below.{below_or_past, get_or_map_below}
use Rattle.trail.specs.declared.Line.{Line}
use Rattle.trail.specs.Trail.{Trail, input_count, line_count, no_line, line_at, difference_at}
use Rattle.trail.specs.Joining.{named, joined_word, joined_line, joined}
use Rattle.trail.proofs.Differences.{difference_input, difference_line}
use Rattle.trail.proofs.JoinedNames.{Joinable}

module _ (a b : Trail) (names : List ℕ) where
  abbrev added : List Line
  added = map (joined_line a b names) b.lines

  pub joined_count : line_count (joined a b names) ≡ line_count a + line_count b
  joined_count = length-append a.lines added ∙ ap (λ (z : ℕ). line_count a + z) (length-map b.lines (joined_line a b names))

  pub line_first : (k : ℕ) → k < line_count a → line_at (joined a b names) k ≡ line_at a k
  unfolding line_at
  line_first k l = get_or-append a.lines added no_line k l

  pub line_second : (k : ℕ) → k < line_count b → line_at (joined a b names) (line_count a + k) ≡ joined_line a b names (line_at b k)
  unfolding line_at
  line_second k l = get_or-append-add a.lines added k no_line ∙ get_or_map_below (joined_line a b names) b.lines k no_line no_line l

  pub line_past : (k : ℕ) → line_count a + line_count b ≤ k → line_at (joined a b names) k ≡ no_line
  unfolding line_at
  line_past k l = get_or-eq_default (joined a b names).lines no_line {n = k} (omega (arith, joined_count))

  pub word_input : (j : ℕ) → j < input_count b → joined_word a b names j ≡ named names j
  unfolding joined_word
  word_input j l = rw (lt-ltb j (input_count b) l)

  pub word_line : (k : ℕ) → joined_word a b names (input_count b + k) ≡ input_count a + (line_count a + k)
  unfolding joined_word
  word_line k = rw (le-ltb (input_count b + k) (input_count b) (omega arith)) (omega arith)

  pub difference_first : (j : ℕ) → j < input_count a + line_count a → difference_at (joined a b names) j ≡ difference_at a j
  difference_first =
      below_or_past (λ j. j < input_count a + line_count a → difference_at (joined a b names) j ≡ difference_at a j) (input_count a)
      (λ j l _. difference_input (joined a b names) j l ∙ sym (difference_input a j l))
      (λ k l. difference_line (joined a b names) k ∙ ap (λ (r : Line). r.difference) (line_first k (omega arith)) ∙ sym (difference_line a k))

module _ {a b : Trail} {names : List ℕ} (can : Joinable a b names) where
  pub difference_second : (j : ℕ) → j < input_count b + line_count b
      → difference_at (joined a b names) (joined_word a b names j) ≡ difference_at b j
  difference_second =
      below_or_past (λ j. j < input_count b + line_count b → difference_at (joined a b names) (joined_word a b names j) ≡ difference_at b j)
      (input_count b)
      (λ j l _.
      ap (difference_at (joined a b names)) (word_input a b names j l)
      ∙ difference_first a b names (named names j) (can.names_known j l)
      ∙ can.names_differ j l
      ∙ sym (difference_input b j l))
      (λ k l.
      ap (difference_at (joined a b names)) (word_line a b names k)
      ∙ difference_line (joined a b names) (line_count a + k)
      ∙ ap (λ (r : Line). r.difference) (line_second a b names k (omega arith))
      ∙ sym (difference_line b k))

  -- an earlier word becomes an earlier word
  pub word_earlier : (k j : ℕ) → j < input_count b + k → joined_word a b names j < input_count a + (line_count a + k)
  word_earlier k =
      below_or_past (λ j. j < input_count b + k → joined_word a b names j < input_count a + (line_count a + k)) (input_count b)
      (λ j l _. omega (arith, word_input a b names j l, can.names_known j l))
      (λ i l. omega (arith, word_line a b names i))

  -- two words become two words
  pub word_once : (i j : ℕ) → joined_word a b names i ≡ joined_word a b names j → i ≡ j
  word_once =
      below_or_past (λ i. (j : ℕ) → joined_word a b names i ≡ joined_word a b names j → i ≡ j) (input_count b)
      (λ i l.
      below_or_past (λ j. joined_word a b names i ≡ joined_word a b names j → i ≡ j) (input_count b)
      (λ j h e. can.names_once i j l h (sym (word_input a b names i l) ∙ e ∙ word_input a b names j h))
      (λ k e. absurd (omega (arith, word_input a b names i l, can.names_known i l, word_line a b names k))))
      (λ k.
      below_or_past (λ j. joined_word a b names (input_count b + k) ≡ joined_word a b names j → input_count b + k ≡ j) (input_count b)
      (λ j h e. absurd (omega (arith, word_input a b names j h, can.names_known j h, word_line a b names k)))
      (λ i e. omega (arith, word_line a b names k, word_line a b names i)))
