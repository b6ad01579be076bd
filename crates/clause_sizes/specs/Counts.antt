-- Both counts of a sheet (document 01, "Clauses").
use Rattle.trail.specs.Trail.{Trail}
use Rattle.clause_lists.specs.Variables.{variables}
use Rattle.clause_lists.specs.Lists.{clause_count}
use Rattle.clause_sizes.specs.declared.Counts.{Counts}

-- One call gives both counts of a sheet.
abbrev pub counts_of : Trail → Counts
counts_of t = record { variables = variables t; clauses = clause_count t }
