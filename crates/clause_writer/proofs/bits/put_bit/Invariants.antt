-- The invariant: the clauses of the outputs passed are written.
use Rattle.words.specs.Below.{concat}
use Rattle.buffers.specs.Overwrite.{Wrote}
use Rattle.cnf.specs.Formulas.{numbers}
use Rattle.clause_writer.specs.Writing.{clauses_of_output}
use Rattle.clause_writer.proofs.bits.put_bit.Given as goal

abbrev pub invariant-loop-j : goal.invariant-loop-j
invariant-loop-j l =
    Wrote l.at (numbers (concat l.j (clauses_of_output l.run l.i))) l.initial.out l.next l.out
