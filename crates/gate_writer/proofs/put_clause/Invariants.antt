-- The invariant: the literals before i are written, and the others and 0 are left.
use Prim.Native.Nat.{◌+◌, ◌≤◌}
use lib.ListN.{length}
use Rattle.buffers.proofs.Appending.{Left}
use Rattle.gate_writer.proofs.Writing.{clause_from}
use Rattle.gate_writer.proofs.put_clause.Given as goal

abbrev pub invariant-loop-i : goal.invariant-loop-i
invariant-loop-i l =
    (l.at + (length l.lits + 1) ≤ length l.initial.out) × Left l.at (clause_from l.lits l.row 0) l.initial.out (l.at + l.i) (clause_from l.lits l.row l.i) l.out
