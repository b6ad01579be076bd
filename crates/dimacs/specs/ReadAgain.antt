-- What is written is read again.
use Rattle.std.specs.Prelude.{ℕ, ◌≡◌, List, ◌++◌, ℤ}
use Rattle.cnf.specs.Formulas.{numbers}
use Rattle.dimacs.specs.Text.{header_text, clauses_text}
use Rattle.dimacs.specs.Reading.{read_file}
use Rattle.dimacs.specs.Reading.Reading.{file}

-- From a header and clauses a solver reads both numbers of the header, and exactly the clauses' numbers.
abbrev pub ReadAgain : Type 0
ReadAgain = (v c : ℕ) (cs : List (List ℤ)) → read_file (header_text v c ++ clauses_text cs) ≡ file v c (numbers cs)
