use native.Mathlib.Omega.{arith}
use mathlib.Core.Path.{refl}
use Rattle.digit_pairs.proofs.Pairs.{filled_none, filled_next, filled_all}
use Rattle.digit_pairs.proofs.digit_pairs.Goals as goal

pub loop-v-init : goal.loop-v-init
loop-v-init c = filled_none refl

pub loop-v-preserved : goal.loop-v-preserved
loop-v-preserved c = filled_next _ (omega arith) c.loop-v.invariant

pub invariant_of-result : goal.invariant_of-result
invariant_of-result c = record { filled = filled_all (omega arith) c.loop-v.invariant }
