-- Joining two trails (document 02, W-203), with no bytes.
use Rattle.std.specs.Prelude.{ℕ, ◌+◌, ◌-◌, ◌<◌, ◌≡◌, ◌≢◌, ◌↔◌, Bool, true, not, ◌&&◌, cond, List, ◌++◌, map, eqb, ltb, length, get_or}
use Rattle.words.specs.Below.{any, all}
use Rattle.trail.specs.declared.Line.{Line}
use Rattle.trail.specs.Kinds.{kind_of, uses_second}
use Rattle.trail.specs.Trail.{Trail, input_count, line_count, difference_at}
use Rattle.trail.specs.Runs.{run_word, is_start, follows}
use Rattle.trail.specs.WellFormed.{WellFormed}

-- The list names one word of the first trail for each input of the second: the word that input j is.
abbrev pub named : List ℕ → ℕ → ℕ
named names j = get_or names j 0

-- A word of the second, renumbered: an input becomes its named word, and line k's word becomes word m + L + k, with m and L of the
-- first.
unfoldable pub joined_word : Trail → Trail → List ℕ → ℕ → ℕ
joined_word a b names j =
    cond (ltb j (input_count b)) (named names j) (input_count a + line_count a + (j - input_count b))

-- a line of the second with operands renumbered; an unused operand stays 0
abbrev pub joined_line : Trail → Trail → List ℕ → Line → Line
joined_line a b names l = record {
  kind = l.kind;
  amount = l.amount;
  first = joined_word a b names l.first;
  second = cond (uses_second (kind_of l.kind)) (joined_word a b names l.second) 0;
  constant = l.constant;
  difference = l.difference;
}

-- the first's width, inputs and lines, then the second's lines with operands renumbered
abbrev pub joined : Trail → Trail → List ℕ → Trail
joined a b names = record {
  width = a.width;
  inputs = a.inputs;
  lines = a.lines ++ map (joined_line a b names) b.lines;
}

-- name j is a word that the first has, no earlier name names it too, and its difference is input j's
unfoldable pub name_right : Trail → Trail → List ℕ → ℕ → Bool
name_right a b names j =
    ltb (named names j) (input_count a + line_count a)
    && (not (any j (λ i. eqb (named names i) (named names j)))
    && eqb (difference_at a (named names j)) (get_or b.inputs j 0))

-- The list has as many names as the second has inputs, names no word that the first has not, no word twice, and no word whose
-- difference is not the input's.
unfoldable pub names_right : Trail → Trail → List ℕ → Bool
names_right a b names = eqb (length names) (input_count b) && all (length names) (name_right a b names)

-- The four sentences one by one: the test is passed exactly where they hold.
pub record NamesRight (a b : Trail) (names : List ℕ) : Type 0 where
  pub one_for_each : length names ≡ input_count b
  pub known : (j : ℕ) → j < length names → named names j < input_count a + line_count a
  pub once : (i j : ℕ) → i < j → j < length names → named names i ≢ named names j
  pub same_difference : (j : ℕ) → j < length names → difference_at a (named names j) ≡ get_or b.inputs j 0

abbrev pub NamesRightExactly : Type 0
NamesRightExactly = (a b : Trail) (names : List ℕ) → (names_right a b names ≡ true) ↔ NamesRight a b names

-- ---- what follows a joined trail

-- the named words of the first's run from x
abbrev pub named_words : Trail → List ℕ → List ℕ → List ℕ
named_words a names x = map (run_word a x) names

-- The joined trail is well-formed, with the lines of both. Its starting values are those of the first, and the named words are one of
-- the second. A starting value follows the joined trail exactly if it follows the first and its named words, taken as inputs, follow
-- the second.
pub record Joins (a b : Trail) (names : List ℕ) : Type 0 where
  pub well_formed : WellFormed (joined a b names)
  pub lines : line_count (joined a b names) ≡ line_count a + line_count b
  pub starts : (x : List ℕ) → is_start (joined a b names) x ≡ is_start a x
  pub second_starts : (x : List ℕ) → is_start a x ≡ true → is_start b (named_words a names x) ≡ true
  pub both_followed : (x : List ℕ) → is_start a x ≡ true
      → follows (joined a b names) x ≡ (follows a x && follows b (named_words a names x))

abbrev pub JoiningIsRight : Type 0
JoiningIsRight =
    (a b : Trail) (names : List ℕ) → WellFormed a → WellFormed b → a.width ≡ b.width → names_right a b names ≡ true
    → Joins a b names
