-- The loop's invariant: the clauses of the bits passed stand in the buffer, one behind the other.
use Rattle.words.specs.Below.{concat}
use Rattle.buffers.specs.Overwrite.{Wrote}
use Rattle.cnf.specs.Formulas.{numbers}
use Rattle.clause_writer.specs.Writing.{clauses_of_bit}
use Rattle.clause_writer.proofs.put_run.Given as goal

abbrev pub invariant-loop-i : goal.invariant-loop-i
invariant-loop-i l = Wrote l.at (numbers (concat l.i (clauses_of_bit l.run))) l.initial.out l.next l.out
