use Prim.Native.Nat.{◌+◌}
use native.Mathlib.Omega.{arith}
use lib.ListN.{length}
use Rattle.clause_lists.specs.Lists.{line_clauses}
use Rattle.sheet.specs.Fields.{trail_of}
use Rattle.sheet.proofs.WellFormed.{line_at_right}
use Rattle.clause_sizes.proofs.SheetCounts.{total_start, total_more, clauses_are, clauses_upto, clauses_all}
use Rattle.clause_sizes.proofs.counting.clauses_of_lines.Goals as goal

pub loop-k-init : goal.loop-k-init
loop-k-init c = total_start _

pub list_size-size-requires : goal.list_size-size-requires
list_size-size-requires c =
    let k = c.loop-k.k in
    (omega arith, omega arith, (_, line_at_right _ _ c.args.sheet.now.read k (omega arith) c.line_at-line.ensures))

pub overflow_add-sum : goal.overflow_add-sum
overflow_add-sum c =
    let h = c.loop-k in
    let s = c.args.sheet.now.bytes.now in
    let e = clauses_are s c.args.sheet.now.header c.args.sheet.now.read h.k (omega arith) c.line_at-line.ensures c.list_size-size.ensures.0 in
    omega (arith, total_more (λ i. length (line_clauses (trail_of s) i)) h.k h.invariant e, clauses_upto s c.args.sheet.now.header c.args.sheet.now.read (h.k + 1) (omega arith))

pub loop-k-preserved : goal.loop-k-preserved
loop-k-preserved c =
    let h = c.loop-k in
    let s = c.args.sheet.now.bytes.now in
    let e = clauses_are s c.args.sheet.now.header c.args.sheet.now.read h.k (omega arith) c.line_at-line.ensures c.list_size-size.ensures.0 in
    total_more (λ i. length (line_clauses (trail_of s) i)) h.k h.invariant e

pub returns : goal.returns
returns c =
    clauses_all c.args.sheet.now.bytes.now c.args.sheet.now.header c.args.sheet.now.read c.loop-k.k (omega arith) c.loop-k.invariant
