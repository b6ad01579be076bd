-- What the code's inner functions may count on of a run's array of words, and of the bits where two results differ otherwise than
-- stated. No call that users make requires any of these.
use Rattle.std.specs.Prelude.{ℕ, ◌+◌, ◌^◌, ◌<◌, ◌≤◌, ◌≡◌, false, List, length, get_or, set}
use Rattle.words.specs.Words.{bit}
use Rattle.trail.specs.Trail.{Trail, input_count}
use Rattle.trail.specs.WellFormed.{most_words}
use Rattle.trail.specs.Runs.{word_of_line, run_word}

-- the words made so far, the first ones, are words of n bits
pub record Holds (n made : ℕ) (words : List ℕ) : Type 0 where
  pub room : length words ≡ most_words
  pub word : (j : ℕ) → j < made → get_or words j 0 < 2 ^ n

-- they are the words of the run from x
pub record Made (t : Trail) (x : List ℕ) (made : ℕ) (words : List ℕ) : Type 0 where
  pub room : length words ≡ most_words
  pub same : (j : ℕ) → j < made → get_or words j 0 ≡ run_word t x j

-- the array with line k's word
abbrev pub with_line : Trail → ℕ → List ℕ → List ℕ
with_line t k words = set words (input_count t + k) (word_of_line t k words)

-- no bit of a word is a one from r to n - 1
pub record NoOnes (apart r n : ℕ) : Type 0 where
  pub none : (j : ℕ) → r ≤ j → j < n → bit apart j ≡ false
