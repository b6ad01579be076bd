-- Gates by their tables, as the writer has them (document 01, "Clauses").
use Rattle.std.specs.Prelude.{ℕ, ◌-◌, ◌/◌, ◌^◌, ◌<◌, cond, List, [], ◌∷◌, length, get_or, ℤ, pos}
use Rattle.std.specs.Bool.{xor}
use Rattle.std.specs.Int.Signed.{mag}
use Rattle.words.specs.Words.{bit}
use Rattle.words.specs.Below.{concat}
use Rattle.cnf.specs.Gates.{clause_of}

-- A gate by its table: bit t of the table is the output at the inputs' row t; the last literal is the output's.
unfoldable pub table_row : List ℤ → ℕ → ℕ → List (List ℤ)
table_row lits table row = cond (xor (bit row 0) (bit table (row / 2))) (clause_of lits row ∷ []) []

unfoldable pub table_gate : List ℤ → ℕ → List (List ℤ)
table_gate lits table = concat (2 ^ length lits) (table_row lits table)

-- every literal can be negated
abbrev pub Small : List ℤ → Type 0
Small lits = (i : ℕ) → mag (get_or lits i (pos 0)) < 2 ^ 31 - 1
