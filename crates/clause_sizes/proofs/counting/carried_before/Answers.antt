use native.Mathlib.Omega.{arith}
use mathlib.Core.Path.{◌≡◌, sym, ap, ◌∙◌}
use mathlib.Core.Bool.{true, false}
use Rattle.words.specs.Below.{count}
use Rattle.words.proofs.Below.{count_le}
use Rattle.trail.specs.declared.Line.{Line}
use Rattle.trail.specs.Kinds.{kind_of}
use Rattle.clause_lists.specs.Kinds.{has_carries}
use Rattle.clause_lists.specs.Variables.{adds}
use Rattle.sheet.specs.Fields.{trail_of}
use Rattle.clause_sizes.proofs.SheetCounts.{count_start, count_more}
use Rattle.clause_sizes.proofs.counting.carried_before.Goals as goal
use Rattle.clause_sizes.proofs.counting.carried_before.Goals.{then-has_carries, else-has_carries}

pub loop-i-init : goal.loop-i-init
loop-i-init c = count_start _

pub overflow_add-found : goal.overflow_add-found
overflow_add-found c =
    let h = c.loop-i in
    omega (arith, count_le h.i (adds (trail_of c.args.sheet.now.bytes.now)))

pub returns : goal.returns
returns c =
    let h = c.loop-i in
    let e : h.i ≡ c.args.k = omega arith in
    h.invariant ∙ ap (λ n. count n (adds (trail_of c.args.sheet.now.bytes.now))) e

pub loop-i-preserved : goal.loop-i-preserved
loop-i-preserved c =
    let h = c.loop-i in
    let t = trail_of c.args.sheet.now.bytes.now in
    let same = ap (λ (l : Line). has_carries (kind_of l.kind)) (sym c.line_at-line.ensures) ∙ sym c.has_carries.ensures in
    elim c.if-has_carries.branch [
      | then-has_carries w ↦ count_more (adds t) h.i true h.invariant (same ∙ w.if-has_carries.true) (omega arith)
      | else-has_carries w ↦ count_more (adds t) h.i false h.invariant (same ∙ w.if-has_carries.false) (omega arith)
    ]
