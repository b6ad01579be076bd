-- The part that is filled is what was to be written.
use Prim.Native.Nat.{ℕ, ◌+◌, ◌-◌}
use mathlib.Core.List.{List}
use mathlib.Core.Path.{◌≡◌, refl, ap, ◌∙◌}
use native.Mathlib.Omega.{arith}
use lib.ListN.{length, take, drop, replicate, length-replicate}
use borrow.Rule.Slice.PartMut.{put_mid}
use Rattle.std.proofs.lemmas.Grind.{common_steps}
use Rattle.std.proofs.lemmas.Slice.{put_mid-paste}
use Rattle.std.proofs.lemmas.List.Edits.{paste_all}
use Rattle.buffers.specs.Overwrite.{overwrite}
use Rattle.sheet_writer.proofs.put_zeros.Goals as goal

part_overwritten : {A : Type 0} (at k : ℕ) (l ys new : List A) → length new ≡ k → ys ≡ new → put_mid at k l ys ≡ overwrite at new l
unfolding overwrite
part_overwritten at k l ys new long now =
    put_mid-paste at k l ys new (length new) now long refl ∙ paste_all l at new (length new) refl

pub returns : goal.returns
returns c =
    let a = c.args in
    let filled : length (take (a.at + a.count - a.at) (drop a.at a.out.now)) ≡ a.count = grind (arith, common_steps) in
    record {
      next = grind (arith, common_steps);
      now_is = part_overwritten _ _ _ _ _ (omega (arith, length-replicate {A = ℕ})) (c.fill.ensures.after (λ y e. e) ∙ ap (λ (n : ℕ). replicate n 0) filled);
    }
