-- The loop's invariant: the clauses of the lines passed are summed, which fits by the limit on all.
use mathlib.Core.Path.{◌≡◌}
use lib.ListN.{length}
use Rattle.words.specs.Below.{total}
use Rattle.clause_lists.specs.Lists.{line_clauses}
use Rattle.sheet.specs.Fields.{trail_of}
use Rattle.clause_sizes.proofs.counting.clauses_of_lines.Given as goal

abbrev pub invariant-loop-k : goal.invariant-loop-k
invariant-loop-k l = l.sum ≡ total l.k (λ i. length (line_clauses (trail_of l.sheet.bytes.now) i))
