-- The number's digits stand behind the blank. Assumes nothing.
use native.Mathlib.Omega.{arith}
use mathlib.Core.Path.{◌∙◌}
use lib.ListN.{length-set}
use Rattle.decimal.proofs.Writing.{length_spaced, spaced_wrote}
use Rattle.decimal.proofs.put_spaced.Goals as goal

pub bounds-out-at : goal.bounds-out-at
bounds-out-at c = omega (arith, length_spaced c.args.value)

pub put_decimal-requires : goal.put_decimal-requires
put_decimal-requires c = rw length-set (omega (arith, length_spaced c.args.value))

pub shape_of-out : goal.shape_of-out
shape_of-out c = c.put_decimal.auto.out ∙ simp length-set

pub returns : goal.returns
returns c = spaced_wrote _ c.requires c.put_decimal.ensures
