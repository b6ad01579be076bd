-- Clauses as text, a list of bytes (document 01, "The programs"; DIMACS CNF).
use Rattle.std.specs.Prelude.{ℕ, suc, List, [], ◌∷◌, ◌++◌, ℤ, pos, negsuc}
use Rattle.decimal.specs.Ascii.{ascii}
use Rattle.decimal.specs.Decimal.{decimal, spaced}

-- a literal: its variable, with a minus before it if it is negated
unfoldable pub literal_text : ℤ → List ℕ
literal_text (pos k) = decimal k
literal_text (negsuc k) = ascii "-" ++ decimal (suc k)

-- a clause is a line: its literals, each followed by a blank, then 0 and the line's end
unfoldable pub clause_text : List ℤ → List ℕ
clause_text [] = ascii "0\n"
clause_text (l ∷ ls) = literal_text l ++ (ascii " " ++ clause_text ls)

-- clauses, one after the other
unfoldable pub clauses_text : List (List ℤ) → List ℕ
clauses_text [] = []
clauses_text (c ∷ cs) = clause_text c ++ clauses_text cs

-- the first line of a file: `p cnf VARIABLES CLAUSES`
unfoldable pub header_text : ℕ → ℕ → List ℕ
header_text variables clauses = ascii "p cnf" ++ (spaced variables ++ (spaced clauses ++ ascii "\n"))
