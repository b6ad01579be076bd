-- Document 01's example file, byte for byte, by computation.
use Prim.Native.Nat.{ℕ}
use Prim.Native.String.{String}
use mathlib.Core.Path.{◌≡◌, refl, ap, ◌∙◌}
use mathlib.Core.Bool.{xor}
use mathlib.Core.List.{List, [], ◌∷◌, ◌++◌}
use lib.IntN.{ℤ}
use Rattle.words.specs.Words.{bit}
use Rattle.words.specs.Below.{count, total, concat}
use Rattle.trail.specs.Kinds.{kind_of}
use Rattle.trail.specs.Trail.{line_at, difference_at}
use Rattle.cnf.specs.Gates.{literals, clause_of, values_in, wrong, row_clauses, gate}
use Rattle.clause_lists.specs.Kinds.{parity, ones, two_or_more}
use Rattle.clause_lists.specs.Variables.{bit_variable, variables_before, carry_variable, variables, bit_literal, carry_literal}
use Rattle.clause_lists.specs.Lists.{bit_clauses, run_clauses, clauses_in, line_clauses, clause_count}
use Rattle.sheet.specs.Fields.{trail_of}
use Rattle.sheet_example.specs.Example.{example_sheet}
use Rattle.sheet_example.proofs.Example.{example_accepted, example_trail}
use Rattle.decimal.specs.Ascii.{ascii}
use Rattle.decimal.specs.Decimal.{digits, decimal, spaced}
use Rattle.dimacs.specs.Text.{literal_text, clause_text, clauses_text, header_text}
use Rattle.dimacs.specs.Reading.{read_file}
use Rattle.dimacs.specs.Reading.Reading.{file}
use Rattle.clause_file.specs.File.{file_text}
use Rattle.clause_file.specs.Demand3.{written_file, LongEnoughForParts, FilePairs}
use Rattle.clause_file.proofs.Demand3.{every_file_pairs}

-- lines of text, each with its end
abbrev lines_text : List String → List ℕ
lines_text [] = []
lines_text (l ∷ ls) = ascii l ++ (ascii "\n" ++ lines_text ls)

pub example_file : file_text (trail_of example_sheet)
    ≡ lines_text
    (
    "p cnf 6 16" ∷
    "1 3 0" ∷
    "-1 -3 0" ∷
    "1 -5 0" ∷
    "-1 5 0" ∷
    "2 5 -4 0" ∷
    "2 -5 4 0" ∷
    "-2 5 4 0" ∷
    "-2 -5 -4 0" ∷
    "-1 -3 0" ∷
    "1 3 0" ∷
    "-1 -6 0" ∷
    "1 6 0" ∷
    "2 6 4 0" ∷
    "2 -6 -4 0" ∷
    "-2 6 -4 0" ∷
    "-2 -6 4 0" ∷ []
    )
unfolding file_text header_text clauses_text clause_text literal_text spaced decimal digits ascii variables variables_before clause_count total line_clauses clauses_in run_clauses bit_clauses parity ones two_or_more gate row_clauses wrong values_in clause_of literals concat bit_literal carry_literal carry_variable bit_variable count line_at difference_at kind_of bit xor
example_file = ap file_text example_trail ∙ refl

-- demand 3 for the bytes of its file
pub example_pairs : (buffers : ℕ → List ℕ) → LongEnoughForParts example_sheet buffers → (v c : ℕ) (list : List ℤ)
    → read_file (written_file example_sheet buffers) ≡ file v c list → FilePairs example_sheet v c list
example_pairs = every_file_pairs example_sheet example_accepted
