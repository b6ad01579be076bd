-- The invariant: the sum of the numbers passed, modulo 2 ^ 32.
use Rattle.block_questions.proofs.CheckSums.{Summed}
use Rattle.block_questions.proofs.checks.number_sum.Given as goal

abbrev pub invariant-loop-j : goal.invariant-loop-j
invariant-loop-j l = Summed l.s l.at l.j l.sum
