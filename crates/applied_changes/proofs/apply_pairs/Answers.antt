use Prim.Native.Nat.{◌/◌}
use native.Mathlib.Omega.{arith}
use mathlib.Core.Path.{◌≡◌, refl, ◌∙◌}
use lib.ListN.{length}
use borrow.Author.Rules.{rules}
use Rattle.applied_changes.proofs.Replying.{replied_none, still_read, replied_next, replied_all}
use Rattle.applied_changes.proofs.apply_pairs.Goals as goal

pub loop-i-init : goal.loop-i-init
loop-i-init c = (refl, refl, replied_none _ _ _)

pub apply_pair-requires : goal.apply_pair-requires
apply_pair-requires c = still_read _ _ _ c.loop-i.invariant.2 c.requires.0

pub loop-i-preserved : goal.loop-i-preserved
loop-i-preserved c =
    let call = c.apply_pair in (
      call.auto.sheet ∙ c.loop-i.invariant.0,
      search rules,
      replied_next _ _ _ c.loop-i.invariant.2 (search rules) refl refl call.ensures.0 call.ensures.1 refl,
    )

pub returns : goal.returns
returns c =
    let all : c.loop-i.i ≡ length c.args.pairs.now / 2 = omega arith in
    rw all at (replied_all _ _ _ c.loop-i.invariant.2 all)
