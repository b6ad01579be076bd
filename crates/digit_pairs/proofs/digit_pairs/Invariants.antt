-- The invariant: the table is filled up to v. Assumes nothing.
use Rattle.digit_pairs.proofs.Pairs.{Filled}
use Rattle.digit_pairs.proofs.digit_pairs.Given as goal

abbrev pub invariant-loop-v : goal.invariant-loop-v
invariant-loop-v l = Filled l.v l.table
