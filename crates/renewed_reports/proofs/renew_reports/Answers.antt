use Prim.Native.Nat.{◌+◌, ◌<◌}
use native.Mathlib.Omega.{arith}
use mathlib.Core.Path.{◌≡◌, ◌∙◌}
use lib.ListN.{length}
use Rattle.trail.specs.Trail.{input_count}
use Rattle.sheet.specs.Fields.{trail_of}
use Rattle.sheet_indexes.specs.Users.{users}
use Rattle.renewed_reports.proofs.Renewing.{renewed_next, renewed_all, renewed_first, walk_fits, part_in, named_count, named_line, named_there}
use Rattle.renewed_reports.proofs.renew_reports.Goals as goal

pub part_position-at-requires : goal.part_position-at-requires
part_position-at-requires c = walk_fits c.args.sheet.now.read c.args.k c.requires.0 c.requires.1

pub offset_bounds-index-at : goal.offset_bounds-index-at
offset_bounds-index-at c = omega (arith, part_in c.args.sheet.now.read c.args.k c.requires.0 c.requires.1 c.part_position-at.ensures)

pub bounds-index-at : goal.bounds-index-at
bounds-index-at c = omega (arith, part_in c.args.sheet.now.read c.args.k c.requires.0 c.requires.1 c.part_position-at.ensures)

pub overflow_add-line-items : goal.overflow_add-line-items
overflow_add-line-items c = omega (arith, part_in c.args.sheet.now.read c.args.k c.requires.0 c.requires.1 c.part_position-at.ensures)

pub overflow_add-line-items-2 : goal.overflow_add-line-items-2
overflow_add-line-items-2 c = omega (arith, part_in c.args.sheet.now.read c.args.k c.requires.0 c.requires.1 c.part_position-at.ensures)

pub overflow_add-line-items-3 : goal.overflow_add-line-items-3
overflow_add-line-items-3 c = omega (arith, part_in c.args.sheet.now.read c.args.k c.requires.0 c.requires.1 c.part_position-at.ensures)

pub offset_bounds-index-at-2 : goal.offset_bounds-index-at-2
offset_bounds-index-at-2 c = omega (arith, part_in c.args.sheet.now.read c.args.k c.requires.0 c.requires.1 c.part_position-at.ensures)

pub slice_bounds-line-items-end : goal.slice_bounds-line-items-end
slice_bounds-line-items-end c = omega (arith, part_in c.args.sheet.now.read c.args.k c.requires.0 c.requires.1 c.part_position-at.ensures)

pub renew_report-requires-in-loop-line : goal.renew_report-requires-in-loop-line
renew_report-requires-in-loop-line c =
    let here = c.part_position-at.ensures in
    let count = named_count c.args.sheet.now.read c.args.k c.requires.0 c.requires.1 here in (
      named_there c.args.sheet.now.read c.args.k c.requires.0 c.requires.1 here c.loop-line.line-index (omega (arith, count)),
      c.loop-line.invariant.0 ∙ c.renew_report.auto.report ∙ c.requires.2,
    )

pub loop-line-preserved : goal.loop-line-preserved
loop-line-preserved c =
    let h = c.loop-line in
    let here = c.part_position-at.ensures in
    let count = named_count c.args.sheet.now.read c.args.k c.requires.0 c.requires.1 here in
    let t = trail_of c.args.sheet.now.bytes.now in
    let us = users t (input_count t + c.args.k) in
    let inside : h.line-index < length us = omega (arith, count) in (
      c.renew_report-in-loop-line.auto.report ∙ h.invariant.0,
      renewed_next t us h.line-index _ h.report inside (named_line c.args.sheet.now.read c.args.k c.requires.0 c.requires.1 here h.line-index inside) c.renew_report-in-loop-line.ensures h.invariant.1,
    )

pub returns : goal.returns
returns c =
    let h = c.loop-line in
    let t = trail_of c.args.sheet.now.bytes.now in
    let us = users t (input_count t + c.args.k) in
    let all : h.line-index ≡ length us = omega (arith, named_count c.args.sheet.now.read c.args.k c.requires.0 c.requires.1 c.part_position-at.ensures) in
    renewed_all t us h.line-index h.report all h.invariant.1 ∙ renewed_first t c.args.k c.args.report.now c.renew_report.ensures
