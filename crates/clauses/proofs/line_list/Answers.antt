-- `line_list` reads, asks for the line and for the room, in that order, and writes only then.
use native.Mathlib.Omega.{arith}
use Rattle.answers.proofs.Calling.{was_read, calling, refuses_too, kept, kept_too, written}
use Rattle.clauses.proofs.line_list.Goals as goal

pub returns-in_err-header : goal.returns-in_err-header
returns-in_err-header c = kept_too _ _ _ _ _ c.from_residual.ensures.1 (refuses_too _ _ _ _ c.in_err-header.ensures)

pub returns-then-header-k : goal.returns-then-header-k
returns-then-header-k c = let read = c.in_ok-header.ensures in kept _ _ _ (search calling depth 12)

pub invariant_of-sheet : goal.invariant_of-sheet
invariant_of-sheet c = record { read = was_read _ c.in_ok-header.ensures }

pub returns-then-out-need : goal.returns-then-out-need
returns-then-out-need c = let read = c.in_ok-header.ensures in kept _ _ _ (search calling depth 14)

pub put_line-numbers-requires : goal.put_line-numbers-requires
put_line-numbers-requires c =
    let read = c.in_ok-header.ensures in
    (c.if-header-k.false, omega arith)

pub returns : goal.returns
returns c = let read = c.in_ok-header.ensures in written _ _ _ c.put_line-numbers.ensures (search calling depth 14)
