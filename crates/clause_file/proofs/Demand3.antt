-- Demand 3 for the bytes of the clause file: what a solver reads from it is the joined list, of which demand 3 speaks.
use Prim.Native.Nat.{ℕ}
use mathlib.Core.Path.{◌≡◌, sym, ap, subst, ◌∙◌}
use mathlib.Core.List.{List, []}
use native.Mathlib.Omega.{arith}
use lib.ListN.{length}
use lib.IntN.{ℤ}
use Rattle.words.specs.Below.{concat}
use Rattle.trail.specs.Trail.{Trail, line_count}
use Rattle.cnf.specs.Formulas.{numbers, clauses_of}
use Rattle.cnf.proofs.Clauses.{numbers_concat}
use Rattle.clause_lists.specs.Variables.{variables}
use Rattle.clause_lists.specs.Lists.{line_clauses, line_list, clause_count, joined}
use Rattle.clause_lists.specs.Pairing.{SatisfiedExactly, MapsInverse, EquallyMany, NamesVariables, NamesLast}
use Rattle.sheet.specs.Fields.{trail_of}
use Rattle.clauses.specs.Demand3.{joined_list, NoneOfEither}
use Rattle.clauses.proofs.Written.{joined_list_lem}
use Rattle.clauses.proofs.Demand3.{every_sheet_pairs}
use Rattle.clauses.proofs.OwnCounts.{every_sheet_counts_right}
use Rattle.dimacs.specs.Reading.{Reading, read_file}
use Rattle.dimacs.specs.Reading.Reading.{file, no_file}
use Rattle.dimacs.proofs.ReadAgain.{read_again}
use Rattle.clause_file.specs.File.{file_text}
use Rattle.clause_file.specs.Demand3.{EveryFileIsRead, FilePairs, EveryFilePairs}
use Rattle.clause_file.proofs.Written.{every_file_is_written}

-- the numbers that are read are those of all lines' lists
file_read : (t : Trail) → read_file (file_text t) ≡ file (variables t) (clause_count t) (joined t)
unfolding file_text joined line_list
file_read t =
    read_again (variables t) (clause_count t) (concat (line_count t) (line_clauses t))
    ∙ ap (file (variables t) (clause_count t)) (sym (numbers_concat (line_count t) (line_clauses t)))

pub every_file_is_read : EveryFileIsRead
every_file_is_read s accepts buffers long lists enough =
    ap read_file (every_file_is_written s accepts buffers long) ∙ file_read (trail_of s)
    ∙ ap (file (variables (trail_of s)) (clause_count (trail_of s))) (sym (joined_list_lem s accepts lists enough))

-- ---- two readings of one file are one

variables_in : Reading → ℕ
variables_in (file v c ns) = v
variables_in no_file = 0

clauses_in : Reading → ℕ
clauses_in (file v c ns) = c
clauses_in no_file = 0

numbers_in : Reading → List ℤ
numbers_in (file v c ns) = ns
numbers_in no_file = []

pub every_file_pairs : EveryFilePairs
unfolding variables_in clauses_in numbers_in
every_file_pairs s accepts buffers long v c list e =
    let t = trail_of s in
    -- buffers for the lists that are just long enough: the lists themselves
    let lists : ℕ → List ℤ = line_list t in
    let pairs = every_sheet_pairs s accepts lists (λ k h. omega arith) in
    let counts = every_sheet_counts_right s accepts lists (λ k h. omega arith) in
    let both = sym (every_file_is_read s accepts buffers long lists (λ k h. omega arith)) ∙ e in
    let same : joined_list s lists ≡ list = ap numbers_in both in
    record {
      variables_read = sym (ap variables_in both);
      names_variables = subst (NamesVariables t) same pairs.names_variables;
      names_last = subst (NamesLast t) same counts.names_last;
      clauses_read = sym (ap clauses_in both) ∙ sym counts.clauses_written ∙ ap (λ (l : List ℤ). length (clauses_of l)) same;
      satisfied_exactly = subst (SatisfiedExactly t) same pairs.satisfied_exactly;
      maps_inverse = subst (MapsInverse t) same pairs.maps_inverse;
      equally_many = subst (EquallyMany t) same pairs.equally_many;
      none_if_impossible = λ k h impossible. subst (NoneOfEither t) same (pairs.none_if_impossible k h impossible);
    }
