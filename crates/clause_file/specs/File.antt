-- The clause file of a trail, as one list of bytes (document 01, "The programs").
use Rattle.std.specs.Prelude.{List, ◌++◌, ℕ}
use Rattle.words.specs.Below.{concat}
use Rattle.trail.specs.Trail.{Trail, line_count}
use Rattle.clause_lists.specs.Variables.{variables}
use Rattle.clause_lists.specs.Lists.{line_clauses, clause_count}
use Rattle.dimacs.specs.Text.{header_text, clauses_text}

-- header: variables, clauses; then the clauses of all lines, in order
unfoldable pub file_text : Trail → List ℕ
file_text t = header_text (variables t) (clause_count t) ++ clauses_text (concat (line_count t) (line_clauses t))
