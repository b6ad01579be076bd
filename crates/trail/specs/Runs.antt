-- Two runs of a trail (document 01, "Two runs").
use Rattle.std.specs.Prelude.{ℕ, zero, suc, ◌+◌, Bool, ◌&&◌, List, [], ◌∷◌, ◌++◌, length, get_or, eqb}
use Rattle.std.specs.Int.Bits.{bit_xor}
use Rattle.words.specs.Words.{is_word}
use Rattle.words.specs.Below.{all, tabulate}
use Rattle.trail.specs.Kinds.{makes}
use Rattle.trail.specs.Trail.{Trail, input_count, line_count, line_at}

-- the word that line k makes from the words before it
unfoldable pub word_of_line : Trail → ℕ → List ℕ → ℕ
word_of_line t k words = makes t.width (line_at t k) (get_or words (line_at t k).first 0) (get_or words (line_at t k).second 0)

-- a run: words 0 to m - 1 are the start, and every line in order makes its word by its kind; the words when k lines have run
unfoldable pub words_after : Trail → List ℕ → ℕ → List ℕ
words_after t start zero = start
words_after t start (suc k) = words_after t start k ++ (word_of_line t k (words_after t start k) ∷ [])

-- word j of a whole run
unfoldable pub run_word : Trail → List ℕ → ℕ → ℕ
run_word t start j = get_or (words_after t start (line_count t)) j 0

-- the second run's start: x XOR the input differences
unfoldable pub partner : Trail → List ℕ → List ℕ
partner t x = tabulate (length x) (λ j. bit_xor (get_or x j 0) (get_or t.inputs j 0))

-- a starting value is m words, each below 2 ^ n
unfoldable pub is_start : Trail → List ℕ → Bool
is_start t x = eqb (length x) (input_count t) && all (length x) (λ j. is_word t.width (get_or x j 0))

-- whether the two runs' results of line k differ by its stated difference
unfoldable pub line_follows : Trail → List ℕ → ℕ → Bool
line_follows t x k =
    eqb (bit_xor (run_word t x (input_count t + k)) (run_word t (partner t x) (input_count t + k))) (line_at t k).difference

-- the two runs from a starting value follow if every line's results differ by its stated difference
unfoldable pub follows : Trail → List ℕ → Bool
follows t x = all (line_count t) (line_follows t x)
