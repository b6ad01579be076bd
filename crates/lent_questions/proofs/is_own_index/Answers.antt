-- The sheet's own index is made where the lent one has its length, and compared.
use native.Mathlib.Omega.{arith}
use Prim.Native.Nat.{ℕ}
use mathlib.Core.Path.{subst, ◌∙◌}
use mathlib.Core.Logic.{◌≢◌}
use lib.ListN.{length}
use Rattle.std.proofs.lemmas.Grind.{common_steps}
use Rattle.sheet.specs.Fields.{trail_of}
use Rattle.sheet_indexes.specs.Index.{index_of}
use Rattle.sheet_indexes.proofs.Sizes.{index_most}
use Rattle.index_writer.proofs.Keeping.{none_kept}
use Rattle.lent_questions.proofs.Comparing.{other_length, own_compared}
use Rattle.lent_questions.proofs.is_own_index.Goals as goal

pub index_starts-need-requires : goal.index_starts-need-requires
index_starts-need-requires c = none_kept

pub returns-then-index-need : goal.returns-then-index-need
returns-then-index-need c =
    let a = c.args in
    other_length (index_of (trail_of a.sheet.now.bytes.now)) a.index.now (subst (λ (n : ℕ). length a.index.now ≢ n) c.index_starts-need.ensures.0 c.if-index-need.true)

pub put_index-end-requires : goal.put_index-end-requires
put_index-end-requires c = (c.index_starts-need.ensures.1, omega (arith, index_most c.args.sheet.now.read))

pub slice_bounds-own-end : goal.slice_bounds-own-end
slice_bounds-own-end c = omega (arith, index_most c.args.sheet.now.read)

pub slice_bounds-eq-end : goal.slice_bounds-eq-end
slice_bounds-eq-end c = grind (arith, common_steps, index_most c.args.sheet.now.read)

pub returns : goal.returns
returns c =
    let a = c.args in
    c.eq.ensures ∙ own_compared (index_of (trail_of a.sheet.now.bytes.now)) a.index.now (omega (arith, index_most c.args.sheet.now.read)) c.put_index-end.ensures
