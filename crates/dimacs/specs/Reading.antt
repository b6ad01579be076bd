-- How a solver reads a file of clauses (DIMACS CNF): comment lines, the header's two numbers, then the clauses' numbers. It knows
-- nothing of how the file was written.
use Rattle.std.specs.Prelude.{ℕ, ◌+◌, ◌*◌, ◌-◌, Bool, true, false, cond, ◌&&◌, ◌||◌, List, [], ◌∷◌, ◌++◌, leb, eqb, ℤ, pos, negsuc, neg_ℤ}
use Rattle.std.proofs.Math.Option.{Option, none, some}
use Rattle.decimal.specs.Ascii.{ascii}

-- ---- lines, and the words of a line

-- the byte that ends a line, and those that part the words of a line: blanks, tabs and carriage returns
unfoldable pub ends_line : ℕ → Bool
ends_line b = eqb b 10

unfoldable pub parts_words : ℕ → Bool
parts_words b = eqb b 32 || eqb b 9 || eqb b 13

-- The pieces of a text between the bytes that part it; where two such bytes stand side by side there is no piece between them.
unfoldable pub with_piece : List ℕ → List (List ℕ) → List (List ℕ)
with_piece [] pieces = pieces
with_piece (b ∷ bs) pieces = (b ∷ bs) ∷ pieces

-- `begun` has the bytes since the last byte that parted
unfoldable pub pieces_from : (ℕ → Bool) → List ℕ → List ℕ → List (List ℕ)
pieces_from parts begun [] = with_piece begun []
pieces_from parts begun (b ∷ bs) =
    cond (parts b) (with_piece begun (pieces_from parts [] bs)) (pieces_from parts (begun ++ (b ∷ [])) bs)

unfoldable pub lines_of : List ℕ → List (List ℕ)
lines_of text = pieces_from ends_line [] text

unfoldable pub words_of : List ℕ → List (List ℕ)
words_of text = pieces_from parts_words [] text

-- the words of all lines
unfoldable pub words_of_all : List (List ℕ) → List (List ℕ)
words_of_all [] = []
words_of_all (l ∷ ls) = words_of l ++ words_of_all ls

-- ---- numbers

-- a digit is a byte from 48, which is 0, to 57
unfoldable pub is_digit : ℕ → Bool
is_digit b = leb 48 b && leb b 57

-- the number whose digits are those read so far, which make n, and then these; no number if a byte is no digit
unfoldable pub with_digits : ℕ → List ℕ → Option ℕ
with_digits n [] = some n
with_digits n (b ∷ bs) = cond (is_digit b) (with_digits (10 * n + (b - 48)) bs) none

-- a word that is a number: one digit or more
unfoldable pub natural : List ℕ → Option ℕ
natural [] = none
natural (b ∷ bs) = with_digits 0 (b ∷ bs)

unfoldable pub mapped : {A B : Type 0} → (A → B) → Option A → Option B
mapped f none = none
mapped f (some a) = some (f a)

-- the same with a minus, byte 45, before the digits or not
unfoldable pub integer : List ℕ → Option ℤ
integer [] = none
integer (b ∷ bs) = cond (eqb b 45) (mapped (λ n. neg_ℤ (pos n)) (natural bs)) (mapped pos (natural (b ∷ bs)))

unfoldable pub both : {A : Type 0} → Option A → Option (List A) → Option (List A)
both none later = none
both (some a) none = none
both (some a) (some later) = some (a ∷ later)

-- words that are numbers, every one of them
unfoldable pub integers : List (List ℕ) → Option (List ℤ)
integers [] = some []
integers (w ∷ ws) = both (integer w) (integers ws)

-- ---- a file

-- what is read from a file: its numbers of variables and of clauses, and the clauses' numbers, a 0 after each clause
pub data Reading : Type 0 where
  file : ℕ → ℕ → List ℤ → Reading
  no_file : Reading

unfoldable pub same_bytes : List ℕ → List ℕ → Bool
same_bytes [] [] = true
same_bytes [] (b ∷ bs) = false
same_bytes (a ∷ more) [] = false
same_bytes (a ∷ more) (b ∷ bs) = eqb a b && same_bytes more bs

-- a comment line begins with c
unfoldable pub is_comment : List ℕ → Bool
is_comment [] = false
is_comment (b ∷ bs) = eqb b 99

-- a 0 closes a clause
unfoldable pub is_zero : ℤ → Bool
is_zero (pos n) = eqb n 0
is_zero (negsuc n) = false

-- whether the last clause is closed; `closed` says it of the numbers before these
unfoldable pub closed_after : Bool → List ℤ → Bool
closed_after closed [] = closed
closed_after closed (n ∷ ns) = closed_after (is_zero n) ns

unfoldable pub with_numbers : Option ℕ → Option ℕ → Option (List ℤ) → Reading
with_numbers (some variables) (some clauses) (some ns) = cond (closed_after true ns) (file variables clauses ns) no_file
with_numbers none clauses numbers = no_file
with_numbers (some variables) none numbers = no_file
with_numbers (some variables) (some clauses) none = no_file

-- the header line's words are p, cnf and two numbers; all words behind it are numbers
unfoldable pub with_header : List (List ℕ) → List (List ℕ) → Reading
with_header (mark ∷ form ∷ variables ∷ clauses ∷ []) words =
    cond (same_bytes mark (ascii "p") && same_bytes form (ascii "cnf"))
    (with_numbers (natural variables) (natural clauses) (integers words))
    no_file
with_header [] words = no_file
with_header (mark ∷ []) words = no_file
with_header (mark ∷ form ∷ []) words = no_file
with_header (mark ∷ form ∷ variables ∷ []) words = no_file
with_header (mark ∷ form ∷ variables ∷ clauses ∷ more ∷ rest) words = no_file

-- comment lines are passed over; the line after them is the header
unfoldable pub read_lines : List (List ℕ) → Reading
read_lines [] = no_file
read_lines (l ∷ ls) = cond (is_comment l) (read_lines ls) (with_header (words_of l) (words_of_all ls))

unfoldable pub read_file : List ℕ → Reading
read_file text = read_lines (lines_of text)
