-- The invariant: what is left to write is the numbers that are not yet passed, and the line's end. Assumes nothing.
use lib.ListN.{drop}
use Rattle.buffers.proofs.Appending.{Left}
use Rattle.decimal.specs.Decimal.{behind}
use Rattle.decimal.proofs.put_numbers.Given as goal

abbrev pub invariant-loop-number : goal.invariant-loop-number
invariant-loop-number l =
    Left l.at (behind l.numbers) l.initial.out l.next (behind (drop l.number-index l.numbers)) l.out
