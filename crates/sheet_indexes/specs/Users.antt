-- Who uses a word (document 02, W-208).
use Rattle.std.specs.Prelude.{ℕ, ◌<◌, ◌≡◌, ◌↔◌, ◌⊎◌, Bool, true, ◌&&◌, ◌||◌, cond, List, [], ◌∷◌, eqb, length, get_or}
use Rattle.words.specs.Below.{concat}
use Rattle.trail.specs.declared.Line.{Line}
use Rattle.trail.specs.Kinds.{kind_of, uses_second}
use Rattle.trail.specs.Trail.{Trail, line_count, line_at}

-- whether a line names word j as a used operand: every known kind uses the first operand, and some the second
unfoldable pub names_word : Line → ℕ → Bool
names_word l j = eqb l.first j || (uses_second (kind_of l.kind) && eqb l.second j)

-- the lines that name word j, ascending, a line once even if it names the word twice
unfoldable pub users : Trail → ℕ → List ℕ
users t j = concat (line_count t) (λ i. cond (names_word (line_at t i) j) (i ∷ []) [])

-- ---- what these are, sentence by sentence

abbrev pub Names : Line → ℕ → Type 0
Names l j = (l.first ≡ j) ⊎ ((uses_second (kind_of l.kind) ≡ true) × (l.second ≡ j))

-- the list has i in it
pub record Has (l : List ℕ) (i : ℕ) : Type 0 where
  pub place : ℕ
  pub inside : place < length l
  pub there : get_or l place 0 ≡ i

-- By the kind's number: kinds 1, 5 and 9 use both operands, and kinds 2, 3, 4, 6, 7 and 8 the first alone.
pub record UsedOperands (l : Line) (j : ℕ) : Type 0 where
  pub both : Has (1 ∷ 5 ∷ 9 ∷ []) l.kind → names_word l j ≡ (eqb l.first j || eqb l.second j)
  pub first_alone : Has (2 ∷ 3 ∷ 4 ∷ 6 ∷ 7 ∷ 8 ∷ []) l.kind → names_word l j ≡ eqb l.first j

abbrev pub UsedByKind : Type 0
UsedByKind = (l : Line) (j : ℕ) → UsedOperands l j

-- A line is in the list exactly if it is one of the trail and names the word. The list ascends, so that no line is in it twice.
pub record UsersRight (t : Trail) (j : ℕ) : Type 0 where
  pub exactly : (i : ℕ) → Has (users t j) i ↔ ((i < line_count t) × Names (line_at t i) j)
  pub ascending : (p q : ℕ) → p < q → q < length (users t j) → get_or (users t j) p 0 < get_or (users t j) q 0

-- for every trail and every word
abbrev pub UsersAreRight : Type 0
UsersAreRight = (t : Trail) (j : ℕ) → UsersRight t j
