-- The list is as long as its gates make it.
use native.Mathlib.Omega.{arith}
use Rattle.sheet.proofs.WellFormed.{line_at_right}
use Rattle.clause_sizes.proofs.SheetCounts.{numbers_are}
use Rattle.clause_sizes.proofs.sizes.list_numbers.Goals as goal

pub list_size-size-requires : goal.list_size-size-requires
list_size-size-requires c =
    (omega arith, omega arith, (_, line_at_right _ _ c.args.sheet.now.read c.args.k c.requires c.line_at-line.ensures))

pub returns : goal.returns
returns c =
    numbers_are _ _ c.args.sheet.now.read c.args.k c.requires c.line_at-line.ensures c.list_size-size.ensures.1
