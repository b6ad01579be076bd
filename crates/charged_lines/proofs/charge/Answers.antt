-- The part of the list is as long as the line's numbers, so it is overwritten whole, and the mark is set at the line's place. A report
-- that costs nothing leaves list and marks as they are.
use Prim.Native.Nat.{ℕ, ◌+◌, ◌*◌, ◌-◌}
use native.Mathlib.Omega.{arith}
use mathlib.Core.Path.{◌≡◌, refl, sym, ap, ◌∙◌}
use mathlib.Core.List.{List}
use lib.ListN.{set}
use borrow.Rule.Slice.PartMut.{put_mid}
use Rattle.buffers.specs.Overwrite.{overwrite}
use Rattle.buffers.proofs.Overwrite.{overwrite_part}
use Rattle.trail.specs.declared.Line.{Line}
use Rattle.listed_lines.specs.Listed.{line_numbers, numbers_of}
use Rattle.charged_lines.proofs.charge.Goals as goal

-- the list with the line's numbers copied into the part that was lent
written : (at : ℕ) (s : List ℕ) (l : Line) {copied numbers : List ℕ} → copied ≡ numbers → numbers ≡ numbers_of l
    → put_mid at (at + line_numbers - at) s copied ≡ overwrite at (numbers_of l) s
written at s l e f =
    ap (put_mid at (at + line_numbers - at) s) (e ∙ f) ∙ overwrite_part at (at + line_numbers - at) s (numbers_of l) (omega arith)

pub returns-then-costs : goal.returns-then-costs
returns-then-costs c =
    let a = c.args in
    let list = written (line_numbers * a.count) a.charged.now a.line c.copy_from_slice.ensures.after c.numbers_of-numbers.ensures in
    rw (sym c.costs.ensures ∙ c.if-costs.true) (refl, list, ap (λ (i : ℕ). set a.marks.now i 1) c.mark_of-mark.ensures.0)

pub returns : goal.returns
returns c = rw (sym c.costs.ensures ∙ c.if-costs.false) (refl, refl, refl)
