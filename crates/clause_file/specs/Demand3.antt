-- Demand 3 for the bytes of the clause file, for every accepted sheet.
use Rattle.std.specs.Prelude.{ℕ, ◌+◌, ◌≤◌, ◌<◌, ◌≡◌, List, length, ℤ}
use Rattle.words.specs.Below.{concat}
use Rattle.trail.specs.Trail.{line_count}
use Rattle.cnf.specs.Formulas.{clauses_of}
use Rattle.clause_lists.specs.Variables.{variables}
use Rattle.clause_lists.specs.Lists.{clause_count}
use Rattle.clause_lists.specs.Pairing.{SatisfiedExactly, MapsInverse, EquallyMany, NamesVariables, NamesLast}
use Rattle.sheet.specs.Fields.{trail_of}
use Rattle.sheet.specs.Questions.{IsAccepted}
use Rattle.answers.specs.Calls.{written}
use Rattle.trail_reports.specs.Lines.{line_report}
use Rattle.clauses.specs.Demand3.{joined_list, LongEnough, NoneOfEither}
use Rattle.dimacs.specs.Reading.{read_file}
use Rattle.dimacs.specs.Reading.Reading.{file}
use Rattle.clause_file.specs.File.{file_text}
use Rattle.clause_file.specs.Parts.{file_part, clause_text_call}

-- The file as users take it away: what the call for one part, lent a buffer long enough for each answer, writes for parts 0 to L, in
-- that order, from the one sheet. `buffers part` is the buffer that was lent for a part.
unfoldable pub written_file : List ℕ → (ℕ → List ℕ) → List ℕ
written_file s buffers = concat (line_count (trail_of s) + 1) (λ part. written (clause_text_call s part (buffers part)))

abbrev pub LongEnoughForParts : List ℕ → (ℕ → List ℕ) → Type 0
LongEnoughForParts s buffers = (part : ℕ) → part ≤ line_count (trail_of s) → length (file_part (trail_of s) part) ≤ length (buffers part)

-- The parts that the calls wrote are the file,
abbrev pub EveryFileIsWritten : Type 0
EveryFileIsWritten =
    (s : List ℕ) → IsAccepted s → (buffers : ℕ → List ℕ) → LongEnoughForParts s buffers → written_file s buffers ≡ file_text (trail_of s)

-- and what a solver reads from it is the variable count, the clause count and exactly the joined list of demand 3, whatever buffers
-- were lent for that list.
abbrev pub EveryFileIsRead : Type 0
EveryFileIsRead =
    (s : List ℕ) → IsAccepted s → (buffers : ℕ → List ℕ) → LongEnoughForParts s buffers → (lists : ℕ → List ℤ) → LongEnough s lists
    → read_file (written_file s buffers) ≡ file (variables (trail_of s)) (clause_count (trail_of s)) (joined_list s lists)

-- So demand 3 reaches the bytes of the file: of v, c and the list that a solver reads from it,
pub record FilePairs (s : List ℕ) (v c : ℕ) (list : List ℤ) : Type 0 where
  -- the variable count is the sheet's, and the largest variable of the list,
  pub variables_read : v ≡ variables (trail_of s)
  pub names_variables : NamesVariables (trail_of s) list
  pub names_last : NamesLast (trail_of s) list
  -- the clause count is the number of its clauses,
  pub clauses_read : c ≡ length (clauses_of list)
  -- an assignment satisfies all clauses exactly when its first variables spell a starting value that follows and every other
  -- variable has the value that the two runs from there give it,
  pub satisfied_exactly : SatisfiedExactly (trail_of s) list
  -- the maps from starting values to assignments and back are inverse to each other on those sets, equally many,
  pub maps_inverse : MapsInverse (trail_of s) list
  pub equally_many : EquallyMany (trail_of s) list
  -- and if any line is reported impossible, there are none of either.
  pub none_if_impossible : (k : ℕ) → k < line_count (trail_of s) → (line_report (trail_of s) k).number ≡ 0 → NoneOfEither (trail_of s) list

abbrev pub EveryFilePairs : Type 0
EveryFilePairs =
    (s : List ℕ) → IsAccepted s → (buffers : ℕ → List ℕ) → LongEnoughForParts s buffers → (v c : ℕ) (list : List ℤ)
    → read_file (written_file s buffers) ≡ file v c list → FilePairs s v c list
