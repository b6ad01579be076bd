use Prim.Native.Nat.{◌+◌, ◌<◌}
use native.Mathlib.Omega.{arith}
use mathlib.Core.Path.{sym, subst, ◌∙◌}
use Rattle.trail.specs.WellFormed.{most_words}
use Rattle.sheet.specs.Fields.{trail_of}
use Rattle.index_writer.specs.Placing.{users_before, Kept}
use Rattle.index_writer.proofs.Naming.{users_none}
use Rattle.index_writer.proofs.Keeping.{kept_as}
use Rattle.index_writer.proofs.Operands.{first_small, second_small, counted_one, counted_two}
use Rattle.index_writer.proofs.count_users.Goals as goal
use Rattle.index_writer.proofs.count_users.Goals.{then-names_another, else-names_another}

pub loop-i-init : goal.loop-i-init
loop-i-init c = kept_as (λ j. sym (users_none _ j)) c.requires

pub overflow_add-counts : goal.overflow_add-counts
overflow_add-counts c = omega (arith, first_small c.args.sheet.now.read c.loop-i.i (omega arith) c.line_at-line.ensures c.loop-i.invariant)

pub overflow_add-counts-then-names_another : goal.overflow_add-counts-then-names_another
overflow_add-counts-then-names_another c =
    let another = sym c.names_another.ensures ∙ c.if-names_another.true in
    omega (arith, second_small c.args.sheet.now.read c.loop-i.i (omega arith) c.line_at-line.ensures c.loop-i.invariant another)

pub loop-i-preserved : goal.loop-i-preserved
loop-i-preserved c =
    let h = c.loop-i in
    let t = trail_of c.args.sheet.now.bytes.now in
    let read = c.args.sheet.now.read in
    let inside : c.loop-i.i < c.args.sheet.now.header.lines = omega arith in
    let line = c.line_at-line.ensures in
    let named = c.names_another.ensures in
    elim c.if-names_another.branch [
      | then-names_another w ↦
          subst (Kept most_words (users_before t (h.i + 1))) (sym w.counts-is)
          (counted_two read h.i inside line h.invariant (sym named ∙ w.if-names_another.true))
      | else-names_another w ↦
          subst (Kept most_words (users_before t (h.i + 1))) (sym w.counts-is)
          (counted_one read h.i inside line h.invariant (sym named ∙ w.if-names_another.false))
    ]
