-- The clauses that tie an output to its inputs (document 01, "Clauses").
use Rattle.std.specs.Prelude.{ℕ, ◌+◌, ◌^◌, Bool, cond, List, [], ◌∷◌, ◌++◌, length, ℤ, neg_ℤ}
use Rattle.std.specs.Bool.{xor}
use Rattle.words.specs.Words.{bit}
use Rattle.words.specs.Below.{concat}

-- An input is a literal or a value that is known: constants, the carry into bit 0 and filled zeros (document 02, W-201) are no
-- literals.
pub data Input : Type 0 where
  known : Bool → Input
  literal : ℤ → Input

-- the inputs' literals, in order
unfoldable pub literals : List Input → List ℤ
literals [] = []
literals (known b ∷ is) = literals is
literals (literal l ∷ is) = l ∷ literals is

-- A row of values for k literals is a number below 2 ^ k, the first literal as highest bit: a literal with j literals after it
-- has bit j. The row's clause: the literals in that order, negated where the row has 1.
unfoldable pub clause_of : List ℤ → ℕ → List ℤ
clause_of [] row = []
clause_of (l ∷ ls) row = cond (bit row (length ls)) (neg_ℤ l) l ∷ clause_of ls row

-- the inputs' values in a row; a bit's output literal follows its input literals
unfoldable pub values_in : List Input → ℕ → List Bool
values_in [] row = []
values_in (known b ∷ is) row = b ∷ values_in is row
values_in (literal l ∷ is) row = bit row (length (literals is) + 1) ∷ values_in is row

-- a row's output, its lowest bit, is wrong if it is not what f makes of the inputs
unfoldable pub wrong : (List Bool → Bool) → List Input → ℕ → Bool
wrong f is row = xor (bit row 0) (f (values_in is row))

-- each row whose output is wrong gives a clause
unfoldable pub row_clauses : (List Bool → Bool) → List Input → ℤ → ℕ → List (List ℤ)
row_clauses f is out row = cond (wrong f is row) (clause_of (literals is ++ (out ∷ [])) row ∷ []) []

-- Go through the value rows upward.
unfoldable pub gate : (List Bool → Bool) → List Input → ℤ → List (List ℤ)
gate f is out = concat (2 ^ (length (literals is) + 1)) (row_clauses f is out)
