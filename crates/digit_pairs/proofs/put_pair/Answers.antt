-- Both digits come out of the table. Assumes nothing.
use native.Mathlib.Omega.{arith}
use lib.ListN.{length-set}
use Rattle.digit_pairs.proofs.Pairs.{pair_wrote}
use Rattle.digit_pairs.proofs.put_pair.Goals as goal

pub bounds-out-at-2 : goal.bounds-out-at-2
bounds-out-at-2 c = rw length-set (omega arith)

pub returns : goal.returns
returns c =
    let a = c.args in
    let table = a.table.now.filled in
    pair_wrote a.at a.value a.out.now (omega arith) (table.tens a.value (omega arith)) (table.ones a.value (omega arith))
