-- The byte that is read is the one at the line's place.
use Prim.Native.Nat.{ℕ}
use mathlib.Core.Path.{ap}
use mathlib.Core.Bool.{not}
use lib.Dec.{eqb}
use lib.ListN.{get_or}
use Rattle.charged_lines.specs.Charged.{is_marked}
use Rattle.charged_lines.proofs.is_marked.Goals as goal

pub returns : goal.returns
unfolding is_marked
returns c = ap (λ (i : ℕ). not (eqb (get_or c.args.marks.now i 0) 0)) c.mark_of-mark.ensures.0
