-- `clause_counts` reads, and counts what reading accepted.
use Rattle.answers.proofs.Calling.{was_read, calling, refused_alone}
use Rattle.clauses.proofs.clause_counts.Goals as goal

pub returns-in_err-header : goal.returns-in_err-header
returns-in_err-header c = refused_alone _ (λ n. n) _ _ _ c.from_residual.ensures.1 c.in_err-header.ensures

pub invariant_of-sheet : goal.invariant_of-sheet
invariant_of-sheet c = record { read = was_read _ c.in_ok-header.ensures }

pub returns : goal.returns
returns c = let read = c.in_ok-header.ensures in search calling depth 12
