-- Texts that are written, texts that a solver reads, and texts that are no file. Assumes nothing.
use Prim.Native.Nat.{ℕ}
use mathlib.Core.Path.{◌≡◌, refl}
use mathlib.Core.Bool.{Bool, true, false, ◌&&◌, ◌||◌}
use mathlib.Core.List.{List, [], ◌∷◌, ◌++◌}
use lib.Dec.{leb, eqb}
use lib.IntN.{pos, negsuc}
use Rattle.words.specs.Below.{all}
use Rattle.decimal.specs.Ascii.{ascii}
use Rattle.decimal.specs.Decimal.{digits, decimal, spaced}
use Rattle.dimacs.specs.Text.{literal_text, clause_text, clauses_text, header_text}
use Rattle.dimacs.specs.Reading.{ends_line, parts_words, with_piece, pieces_from, lines_of, words_of, words_of_all}
use Rattle.dimacs.specs.Reading.{is_digit, with_digits, natural, mapped, integer, both, integers}
use Rattle.dimacs.specs.Reading.{Reading, same_bytes, is_comment, is_zero, closed_after, with_numbers, with_header, read_lines, read_file}
use Rattle.dimacs.specs.Reading.Reading.{file, no_file}

pub written
    : header_text 6 16 ++ clauses_text ((pos 1 ∷ pos 3 ∷ []) ∷ (pos 2 ∷ pos 5 ∷ negsuc 3 ∷ []) ∷ []) ≡ ascii "p cnf 6 16\n1 3 0\n2 5 -4 0\n"
unfolding header_text clauses_text clause_text literal_text spaced decimal digits ascii
written = refl

-- ---- texts that a solver reads

pub record AreRead : Type 0 where
  -- comment lines before the header, and several clauses on one line
  pub comments : read_file (ascii "c two clauses\nc and a unit\np cnf 6 3\n1 -2 0 3 4 5 0 -6 0\n")
      ≡ file 6 3 (pos 1 ∷ negsuc 1 ∷ pos 0 ∷ pos 3 ∷ pos 4 ∷ pos 5 ∷ pos 0 ∷ negsuc 5 ∷ pos 0 ∷ [])
  -- a clause over several lines, tabs, several blanks, and an empty line
  pub over_lines : read_file (ascii "p cnf 40 2\n1\t-20\n\n3   40\n0 5 \t -6 0\n")
      ≡ file 40 2 (pos 1 ∷ negsuc 19 ∷ pos 3 ∷ pos 40 ∷ pos 0 ∷ pos 5 ∷ negsuc 5 ∷ pos 0 ∷ [])
  -- carriage returns before the line ends, and blanks before and after the numbers of a line
  pub carriage_returns : read_file (ascii "p cnf 6 2\r\n  1 -2 0\r\n 3 6 0  \r\n")
      ≡ file 6 2 (pos 1 ∷ negsuc 1 ∷ pos 0 ∷ pos 3 ∷ pos 6 ∷ pos 0 ∷ [])
  -- tabs and blanks in the header, and no end of the last line
  pub last_line : read_file (ascii "p  cnf\t6   1 \n1 -2 0") ≡ file 6 1 (pos 1 ∷ negsuc 1 ∷ pos 0 ∷ [])
  -- no clauses
  pub no_clauses : read_file (ascii "p cnf 0 0\n") ≡ file 0 0 []

pub are_read : AreRead
unfolding ends_line parts_words with_piece pieces_from lines_of words_of words_of_all is_digit with_digits natural mapped integer both integers
    same_bytes is_comment is_zero closed_after with_numbers with_header read_lines read_file ascii
are_read = record {
  comments = refl;
  over_lines = refl;
  carriage_returns = refl;
  last_line = refl;
  no_clauses = refl;
}

-- ---- texts that are no file

pub record AreNoHeaders : Type 0 where
  pub empty : read_file (ascii "") ≡ no_file
  pub no_header : read_file (ascii "1 -2 0\n") ≡ no_file
  pub comment_alone : read_file (ascii "c no header\n") ≡ no_file
  pub header_late : read_file (ascii "1 -2 0\np cnf 6 1\n") ≡ no_file
  pub third_number : read_file (ascii "p cnf 6 1 1\n1 -2 0\n") ≡ no_file
  pub one_number : read_file (ascii "p cnf 6\n1 -2 0\n") ≡ no_file
  pub no_number : read_file (ascii "p cnf\n1 -2 0\n") ≡ no_file
  pub mark_alone : read_file (ascii "p\n1 -2 0\n") ≡ no_file
  -- a line of blanks alone is the first line, and no header; an empty line is none
  pub blank_line : read_file (ascii " \np cnf 6 1\n1 -2 0\n") ≡ no_file
  pub blank_alone : read_file (ascii " \n1 -2 0\n") ≡ no_file
  pub first_negative : read_file (ascii "p cnf -6 1\n1 -2 0\n") ≡ no_file
  pub second_negative : read_file (ascii "p cnf 6 -1\n1 -2 0\n") ≡ no_file
  -- a carriage return ends no line, so this is one comment and no header
  pub return_no_end : read_file (ascii "c x\rp cnf 1 1\n1 0\n") ≡ no_file
  pub longer_mark : read_file (ascii "p0 cnf 6 1\n1 0\n") ≡ no_file
  pub late_comment : read_file (ascii " c cnf 6 1\n1 0\n") ≡ no_file
  pub other_mark : read_file (ascii "q cnf 6 1\n1 -2 0\n") ≡ no_file
  pub other_form : read_file (ascii "p sat 6 1\n1 -2 0\n") ≡ no_file
  pub other_letter : read_file (ascii "p dnf 6 1\n1 -2 0\n") ≡ no_file
  pub other_form_third : read_file (ascii "p dnf 6 1 1\n1 -2 0\n") ≡ no_file
  pub longer_form : read_file (ascii "p cnfs 6 1\n1 -2 0\n") ≡ no_file
  pub shorter_form : read_file (ascii "p cn 6 1\n1 -2 0\n") ≡ no_file

pub are_no_headers : AreNoHeaders
unfolding ends_line parts_words with_piece pieces_from lines_of words_of words_of_all is_digit with_digits natural mapped integer both integers
    same_bytes is_comment is_zero closed_after with_numbers with_header read_lines read_file ascii
are_no_headers = record {
  empty = refl;
  no_header = refl;
  comment_alone = refl;
  header_late = refl;
  third_number = refl;
  one_number = refl;
  no_number = refl;
  mark_alone = refl;
  blank_line = refl;
  blank_alone = refl;
  first_negative = refl;
  second_negative = refl;
  return_no_end = refl;
  longer_mark = refl;
  late_comment = refl;
  other_mark = refl;
  other_form = refl;
  other_letter = refl;
  other_form_third = refl;
  longer_form = refl;
  shorter_form = refl;
}

pub record AreNoClauses : Type 0 where
  -- comment lines stand before the header alone
  pub comment_behind : read_file (ascii "p cnf 6 1\nc two literals\n1 -2 0\n") ≡ no_file
  pub minus_alone : read_file (ascii "p cnf 6 1\n1 - 2 0\n") ≡ no_file
  pub minus_inside : read_file (ascii "p cnf 6 1\n1-2 0\n") ≡ no_file
  pub two_minus : read_file (ascii "p cnf 6 1\n--1 0\n") ≡ no_file
  -- the bytes beside the digits' are / and :
  pub below_digits : read_file (ascii "p cnf 6 1\n1/ 0\n") ≡ no_file
  pub above_digits : read_file (ascii "p cnf 6 1\n1: 0\n") ≡ no_file
  -- a percent sign behind the clauses, with which some collections end their files
  pub percent_end : read_file (ascii "p cnf 6 1\n1 -2 0\n%\n0\n") ≡ no_file
  pub open_clause : read_file (ascii "p cnf 6 2\n1 -2 0\n3 4\n") ≡ no_file
  pub open_negated : read_file (ascii "p cnf 6 2\n1 -2 0\n3 -4\n") ≡ no_file

pub are_no_clauses : AreNoClauses
unfolding ends_line parts_words with_piece pieces_from lines_of words_of words_of_all is_digit with_digits natural mapped integer both integers
    same_bytes is_comment is_zero closed_after with_numbers with_header read_lines read_file ascii
are_no_clauses = record {
  comment_behind = refl;
  minus_alone = refl;
  minus_inside = refl;
  two_minus = refl;
  below_digits = refl;
  above_digits = refl;
  percent_end = refl;
  open_clause = refl;
  open_negated = refl;
}

-- ---- every other byte

abbrev is_no_file : Reading → Bool
is_no_file (file v c ns) = false
is_no_file no_file = true

-- between two digits only another digit, a tab, a line end, a carriage return or a blank can stand
pub between_digits : all 256 (λ b. (leb 48 b && leb b 57) || (eqb b 9 || (eqb b 10 || (eqb b 13 || (eqb b 32
    || is_no_file (read_file (ascii "p cnf 12 1\n1" ++ (b ∷ ascii "2 0\n")))))))) ≡ true
unfolding ends_line parts_words with_piece pieces_from lines_of words_of words_of_all is_digit with_digits natural mapped integer both integers
    same_bytes is_comment is_zero closed_after with_numbers with_header read_lines read_file ascii all
between_digits = refl

-- and before the header only a line that begins with c
pub before_header : all 256 (λ b. eqb b 99 || is_no_file (read_file (b ∷ ascii " x\np cnf 1 1\n1 0\n"))) ≡ true
unfolding ends_line parts_words with_piece pieces_from lines_of words_of words_of_all is_digit with_digits natural mapped integer both integers
    same_bytes is_comment is_zero closed_after with_numbers with_header read_lines read_file ascii all
before_header = refl

-- ---- headers, whatever their words

-- five words or more are no header,
pub five_words : (a b c d e : List ℕ) (rest words : List (List ℕ)) → with_header (a ∷ b ∷ c ∷ d ∷ e ∷ rest) words ≡ no_file
unfolding with_header
five_words a b c d e rest words = refl

-- and four only if they begin with p and cnf
pub other_words : (mark form v c : List ℕ) (words : List (List ℕ)) → (same_bytes mark (ascii "p") && same_bytes form (ascii "cnf")) ≡ false
    → with_header (mark ∷ form ∷ v ∷ c ∷ []) words ≡ no_file
unfolding with_header
other_words mark form v c words e = rw e
