-- What is written is read again. Assumes nothing.
use mathlib.Core.Path.{◌≡◌, refl, sym, ap, ◌∙◌}
use mathlib.Core.Bool.{Bool, true, false}
use mathlib.Core.List.{List, [], ◌∷◌, ◌++◌, map, append_assoc}
use mathlib.Core.Option.{some}
use Prim.Native.Nat.{ℕ, zero, ◌≤◌}
use native.Mathlib.Omega.{arith}
use lib.IntN.{ℤ, pos}
use lib.ListN.{length, length-append}
use Rattle.words.specs.Below.{all}
use Rattle.cnf.specs.Formulas.{numbers}
use Rattle.decimal.specs.Ascii.{ascii}
use Rattle.decimal.specs.Decimal.{decimal, spaced}
use Rattle.decimal.proofs.Decimals.{length_some}
use Rattle.dimacs.specs.Text.{literal_text, clause_text, clauses_text, header_text}
use Rattle.dimacs.specs.Reading.{ends_line, parts_words, with_piece, pieces_from, lines_of, words_of, words_of_all}
use Rattle.dimacs.specs.Reading.{is_digit, with_digits, natural, mapped, integer, both, integers}
use Rattle.dimacs.specs.Reading.{same_bytes, is_comment, is_zero, closed_after, with_numbers, with_header, read_lines, read_file}
use Rattle.dimacs.specs.Reading.Reading.{file}
use Rattle.dimacs.specs.ReadAgain.{ReadAgain}
use Rattle.dimacs.proofs.Pieces.{Without, without_append, first_piece, last_piece}
use Rattle.dimacs.proofs.Numbers.{without_decimal, literal_without, literal_some, natural_decimal, integer_literal}

-- ---- no digit and no minus parts anything

decimal_in_line : (v : ℕ) → Without ends_line (decimal v)
unfolding ends_line all
decimal_in_line v = without_decimal ends_line refl v

decimal_in_word : (v : ℕ) → Without parts_words (decimal v)
unfolding parts_words all
decimal_in_word v = without_decimal parts_words refl v

literal_in_line : (l : ℤ) → Without ends_line (literal_text l)
unfolding ends_line all
literal_in_line l = literal_without ends_line refl refl l

literal_in_word : (l : ℤ) → Without parts_words (literal_text l)
unfolding parts_words all
literal_in_word l = literal_without parts_words refl refl l

-- ---- the lines of the text

-- a clause's line without its end
clause_line : List ℤ → List ℕ
clause_line [] = ascii "0"
clause_line (l ∷ ls) = literal_text l ++ (32 ∷ clause_line ls)

clause_line_lem : (c : List ℤ) (rest : List ℕ) → clause_text c ++ rest ≡ clause_line c ++ (10 ∷ rest)
unfolding clause_text clause_line ascii
clause_line_lem [] rest = refl
clause_line_lem (l ∷ ls) rest =
    append_assoc (literal_text l) (32 ∷ clause_text ls) rest
    ∙ ap (λ (t : List ℕ). literal_text l ++ (32 ∷ t)) (clause_line_lem ls rest)
    ∙ sym (append_assoc (literal_text l) (32 ∷ clause_line ls) (10 ∷ rest))

clause_in_line : (c : List ℤ) → Without ends_line (clause_line c)
unfolding clause_line ascii ends_line
clause_in_line [] = (refl, tt)
clause_in_line (l ∷ ls) =
    without_append ends_line (literal_text l) (32 ∷ clause_line ls) (literal_in_line l) (refl, clause_in_line ls)

line_some : (c : List ℤ) → 1 ≤ length (clause_line c)
unfolding clause_line ascii
line_some [] = omega arith
line_some (l ∷ ls) = omega (arith, length-append (literal_text l) (32 ∷ clause_line ls), literal_some l)

clauses_lines : (cs : List (List ℤ)) → lines_of (clauses_text cs) ≡ map clause_line cs
unfolding lines_of clauses_text ends_line pieces_from with_piece
clauses_lines [] = refl
clauses_lines (c ∷ cs) =
    ap lines_of (clause_line_lem c (clauses_text cs))
    ∙ first_piece ends_line (clause_line c) 10 (clauses_text cs) (clause_in_line c) (line_some c) refl
    ∙ ap (λ (ls : List (List ℕ)). clause_line c ∷ ls) (clauses_lines cs)

-- the header's line without its end
header_line : ℕ → ℕ → List ℕ
header_line v c = ascii "p cnf" ++ (spaced v ++ spaced c)

header_line_lem : (v c : ℕ) (rest : List ℕ) → header_text v c ++ rest ≡ header_line v c ++ (10 ∷ rest)
unfolding header_text header_line ascii
header_line_lem v c rest = simp append_assoc

spaced_in_line : (v : ℕ) → Without ends_line (spaced v)
unfolding spaced ascii ends_line
spaced_in_line v = (refl, decimal_in_line v)

header_in_line : (v c : ℕ) → Without ends_line (header_line v c)
unfolding header_line ascii ends_line
header_in_line v c = (refl, (refl, (refl, (refl, (refl, numbers_in_line)))))
  where
    numbers_in_line : Without ends_line (spaced v ++ spaced c)
    numbers_in_line = without_append ends_line (spaced v) (spaced c) (spaced_in_line v) (spaced_in_line c)

header_some : (v c : ℕ) → 1 ≤ length (header_line v c)
unfolding header_line ascii
header_some v c = omega arith

file_lines : (v c : ℕ) (cs : List (List ℤ)) → lines_of (header_text v c ++ clauses_text cs) ≡ header_line v c ∷ map clause_line cs
unfolding lines_of ends_line
file_lines v c cs =
    ap lines_of (header_line_lem v c (clauses_text cs))
    ∙ first_piece ends_line (header_line v c) 10 (clauses_text cs) (header_in_line v c) (header_some v c) refl
    ∙ ap (λ (ls : List (List ℕ)). header_line v c ∷ ls) (clauses_lines cs)

-- ---- the words of the lines

-- a clause's words are its literals, and 0
clause_words : (c : List ℤ) → words_of (clause_line c) ≡ map literal_text c ++ (ascii "0" ∷ [])
unfolding clause_line words_of ascii parts_words pieces_from with_piece
clause_words [] = refl
clause_words (l ∷ ls) =
    first_piece parts_words (literal_text l) 32 (clause_line ls) (literal_in_word l) (literal_some l) refl
    ∙ ap (λ (ws : List (List ℕ)). literal_text l ∷ ws) (clause_words ls)

-- the header's are p, cnf and both numbers
header_words : (v c : ℕ) → words_of (header_line v c) ≡ ascii "p" ∷ ascii "cnf" ∷ decimal v ∷ decimal c ∷ []
unfolding header_line words_of ascii spaced parts_words pieces_from with_piece
header_words v c = ap (λ (ws : List (List ℕ)). ascii "p" ∷ ascii "cnf" ∷ ws) counts
  where
    counts : pieces_from parts_words [] (decimal v ++ (32 ∷ decimal c)) ≡ decimal v ∷ decimal c ∷ []
    counts =
        first_piece parts_words (decimal v) 32 (decimal c) (decimal_in_word v) (length_some v) refl
        ∙ ap (λ (ws : List (List ℕ)). decimal v ∷ ws) (last_piece parts_words (decimal c) (decimal_in_word c) (length_some c))

-- ---- the numbers of the words

zero_read : integer (ascii "0") ≡ some (pos zero)
unfolding integer ascii mapped natural with_digits is_digit
zero_read = refl

words_of_clause : (c : List ℤ) (words : List (List ℕ)) (ns : List ℤ) → integers words ≡ some ns
    → integers ((map literal_text c ++ (ascii "0" ∷ [])) ++ words) ≡ some (c ++ (pos zero ∷ ns))
unfolding integers both
words_of_clause [] words ns h = rw (zero_read, h)
words_of_clause (l ∷ ls) words ns h = rw (integer_literal l, words_of_clause ls words ns h)

words_numbers : (cs : List (List ℤ)) → integers (words_of_all (map clause_line cs)) ≡ some (numbers cs)
unfolding integers words_of_all numbers
words_numbers [] = refl
words_numbers (c ∷ cs) =
    rw (clause_words c) (words_of_clause c (words_of_all (map clause_line cs)) (numbers cs) (words_numbers cs))

-- ---- the last clause is closed

closed_clause : (closed : Bool) (c ns : List ℤ) → closed_after closed (c ++ (pos zero ∷ ns)) ≡ closed_after true ns
unfolding closed_after is_zero
closed_clause closed [] ns = refl
closed_clause closed (l ∷ ls) ns = closed_clause (is_zero l) ls ns

closed_clauses : (cs : List (List ℤ)) → closed_after true (numbers cs) ≡ true
unfolding closed_after numbers
closed_clauses [] = refl
closed_clauses (c ∷ cs) = closed_clause true c (numbers cs) ∙ closed_clauses cs

-- ---- the file

header_read : (v c : ℕ) (words : List (List ℕ)) (ns : List ℤ) → integers words ≡ some ns → closed_after true ns ≡ true
    → with_header (ascii "p" ∷ ascii "cnf" ∷ decimal v ∷ decimal c ∷ []) words ≡ file v c ns
unfolding with_header with_numbers same_bytes ascii
header_read v c words ns h closed = rw (natural_decimal v, natural_decimal c, h, closed)

no_comment : (v c : ℕ) → is_comment (header_line v c) ≡ false
unfolding is_comment header_line ascii
no_comment v c = refl

pub read_again : ReadAgain
unfolding read_file read_lines
read_again v c cs =
    rw (file_lines v c cs, no_comment v c, header_words v c)
    (header_read v c (words_of_all (map clause_line cs)) (numbers cs) (words_numbers cs) (closed_clauses cs))
