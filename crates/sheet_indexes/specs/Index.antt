-- The index of a sheet (document 02, W-208).
use Rattle.std.specs.Prelude.{ℕ, ◌+◌, ◌*◌, ◌<◌, ◌≤◌, ◌≡◌, List, ◌∷◌, length, get_or}
use Rattle.words.specs.Below.{count, total, concat}
use Rattle.trail.specs.Trail.{Trail, input_count, line_count, line_at}
use Rattle.sheet.specs.Fields.{trail_of}
use Rattle.sheet.specs.Questions.{IsAccepted}
use Rattle.sheet_indexes.specs.Users.{names_word, users}

-- how many lines name word j as a used operand, then those lines
abbrev pub word_part : Trail → ℕ → List ℕ
word_part t j = length (users t j) ∷ users t j

-- m + L
abbrev pub word_count : Trail → ℕ
word_count t = input_count t + line_count t

-- for each word, rising from 0
unfoldable pub index_of : Trail → List ℕ
index_of t = concat (word_count t) (word_part t)

-- ---- where each word's part stands

-- behind the parts of the words before it, each of which takes a number for the count and one for each line
unfoldable pub part_start : Trail → ℕ → ℕ
part_start t j = total j (λ i. 1 + length (users t i))

-- the first word's part is the first, and each stands behind that of the word before
pub record StartsRise (t : Trail) : Type 0 where
  pub none_before : part_start t 0 ≡ 0
  pub next : (j : ℕ) → part_start t (j + 1) ≡ part_start t j + 1 + length (users t j)

abbrev pub PartsRise : Type 0
PartsRise = (t : Trail) → StartsRise t

pub record PartRight (t : Trail) (j : ℕ) : Type 0 where
  pub how_many : get_or (index_of t) (part_start t j) 0 ≡ count (line_count t) (λ i. names_word (line_at t i) j)
  pub how_long : length (users t j) ≡ count (line_count t) (λ i. names_word (line_at t i) j)
  pub then_lines : (p : ℕ) → p < length (users t j) → get_or (index_of t) (part_start t j + 1 + p) 0 ≡ get_or (users t j) p 0

-- for every word of every trail
abbrev pub PartsAreRight : Type 0
PartsAreRight = (t : Trail) (j : ℕ) → j < word_count t → PartRight t j

-- ---- how long the index is

-- the uses: for each line, the words that it names
unfoldable pub uses : Trail → ℕ
uses t = total (line_count t) (λ i. count (word_count t) (names_word (line_at t i)))

-- m + L + the uses, and no line names more than two words
pub record IndexSized (t : Trail) : Type 0 where
  pub long : length (index_of t) ≡ input_count t + line_count t + uses t
  pub two_a_line : uses t ≤ 2 * line_count t

abbrev pub IndexesAreSized : Type 0
IndexesAreSized = (t : Trail) → IndexSized t

-- at most 8 + 248 + 496 numbers for every accepted sheet
abbrev pub most_numbers : ℕ
most_numbers = 8 + 248 + 496

abbrev pub MostIsEnough : Type 0
MostIsEnough = (s : List ℕ) → IsAccepted s → length (index_of (trail_of s)) ≤ most_numbers
