-- The invariant: what is left to write is the text of the numbers that are not yet passed. Assumes nothing.
use lib.ListN.{drop}
use Rattle.buffers.proofs.Appending.{Left}
use Rattle.dimacs.specs.Numbers.{numbers_text}
use Rattle.literal_text.proofs.put_list.Given as goal

abbrev pub invariant-loop-number : goal.invariant-loop-number
invariant-loop-number l = Left l.at (numbers_text l.list) l.initial.out l.next (numbers_text (drop l.number-index l.list)) l.out
