-- What is kept for each word, and what stands in the buffer, while an index is written. Inner notions of the code: no document speaks
-- of them.
use Rattle.std.specs.Prelude.{ℕ, ◌+◌, ◌<◌, ◌≡◌, Bool, not, ◌&&◌, List, eqb, length, get_or, drop}
use Rattle.words.specs.Below.{count}
use Rattle.trail.specs.declared.Line.{Line}
use Rattle.trail.specs.Kinds.{kind_of, uses_second}
use Rattle.trail.specs.Trail.{Trail, line_at}
use Rattle.trail.specs.WellFormed.{most_words}
use Rattle.sheet_indexes.specs.Users.{names_word}
use Rattle.sheet_indexes.specs.Index.{word_count, index_of, part_start}

-- whether a line names a second word beside that of its first operand
unfoldable pub names_another : Line → Bool
names_another l = uses_second (kind_of l.kind) && not (eqb l.first l.second)

-- of the first b lines, how many name word j
abbrev pub users_before : Trail → ℕ → ℕ → ℕ
users_before t b j = count b (λ i. names_word (line_at t i) j)

-- a number for each of n words: for word j it is f j
pub record Kept (n : ℕ) (f : ℕ → ℕ) (l : List ℕ) : Type 0 where
  pub long : length l ≡ most_words
  pub each : (j : ℕ) → j < n → get_or l j 0 ≡ f j

-- at position q the buffer m has what the index has there
abbrev pub At : Trail → List ℕ → ℕ → Type 0
At t m q = get_or m q 0 ≡ get_or (index_of t) q 0

-- The buffer was l and is m: the counts of the first n words stand in it, and the first c j lines of each word j. Behind the index all
-- is as it was.
pub record Stands (t : Trail) (n : ℕ) (c : ℕ → ℕ) (l m : List ℕ) : Type 0 where
  pub long : length m ≡ length l
  pub counts : (j : ℕ) → j < n → At t m (part_start t j)
  pub lines : (j p : ℕ) → j < word_count t → p < c j → At t m (part_start t j + 1 + p)
  pub rest : drop (length (index_of t)) m ≡ drop (length (index_of t)) l

-- of each word j's lines the first c j stand, and the number kept for the word is the position of the last of them, or of the count
pub record Placed (t : Trail) (c : ℕ → ℕ) (l last m : List ℕ) : Type 0 where
  pub kept : Kept (word_count t) (λ j. part_start t j + c j) last
  pub stands : Stands t 0 c l m
