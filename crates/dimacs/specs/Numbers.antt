-- The text of a list of numbers as the code has them, literals with a 0 after each clause: what inner functions of the code cite. Where
-- the numbers spell clauses it is their text (`same_text`).
use Rattle.std.specs.Prelude.{ℕ, zero, suc, ◌<◌, List, [], ◌∷◌, ◌++◌, length, get_or, ℤ, pos, negsuc, nat_abs}
use Rattle.decimal.specs.Ascii.{ascii}
use Rattle.dimacs.specs.Text.{literal_text}

-- a 0 and the line's end, or a literal and a blank
unfoldable pub number_text : ℤ → List ℕ
number_text (pos zero) = ascii "0\n"
number_text (pos (suc k)) = literal_text (pos (suc k)) ++ ascii " "
number_text (negsuc k) = literal_text (negsuc k) ++ ascii " "

unfoldable pub numbers_text : List ℤ → List ℕ
numbers_text [] = []
numbers_text (n ∷ ns) = number_text n ++ numbers_text ns

-- every number is below a bound, whatever its sign
abbrev pub AllBelow : ℕ → List ℤ → Type 0
AllBelow bound ns = (i : ℕ) → i < length ns → nat_abs (get_or ns i (pos 0)) < bound
