use native.Mathlib.Omega.{arith}
use lib.ListN.{length-set}
use Rattle.decimal.proofs.Decimals.{length_some}
use Rattle.decimal.proofs.Writing.{ahead_start, ahead_next, ahead_end}
use Rattle.decimal.proofs.put_decimal.Goals as goal

pub loop-rest-init : goal.loop-rest-init
loop-rest-init c = (omega arith, rw c.decimal_length.ensures.0 (ahead_start _ _ _ c.requires))

pub overflow_sub-left : goal.overflow_sub-left
overflow_sub-left c = omega (arith, length_some c.loop-rest.rest)

pub bounds-out-left : goal.bounds-out-left
bounds-out-left c = omega (arith, length_some c.loop-rest.rest)

pub loop-rest-preserved : goal.loop-rest-preserved
loop-rest-preserved c = (c.loop-rest.invariant.0, ahead_next _ _ _ c.loop-rest.invariant.1 (omega arith))

pub bounds-out-at : goal.bounds-out-at
bounds-out-at c = omega (arith, length_some c.loop-rest.rest)

pub shape_of-out : goal.shape_of-out
shape_of-out c = rw length-set c.loop-rest.invariant.1.long

pub returns : goal.returns
returns c = record { next = c.loop-rest.invariant.0; now_is = ahead_end _ _ _ c.loop-rest.invariant.1 (omega arith) }
