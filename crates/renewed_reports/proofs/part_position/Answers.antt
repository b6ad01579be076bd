use Prim.Native.Nat.{◌+◌}
use mathlib.Core.Path.{◌≡◌, sym, subst}
use lib.ListN.{get_or}
use Rattle.renewed_reports.specs.Walking.{part_at}
use Rattle.renewed_reports.proofs.Walking.{walk_none, walk_next}
use Rattle.renewed_reports.proofs.part_position.Goals as goal

pub loop-init : goal.loop-init
loop-init c = walk_none _

pub loop-preserved : goal.loop-preserved
loop-preserved c =
    let h = c.loop in
    let x = c.args.index.now in
    sym (subst (λ p. part_at x (h.counter + 1) ≡ p + (1 + get_or x p 0)) (sym h.invariant) (walk_next x h.counter))
