-- A line's record lies within the sheet's blocks.
use native.Mathlib.Omega.{arith}
use mathlib.Core.Path.{ap, ◌∙◌}
use Rattle.sheet.specs.Fields.{record_from, record_of, record_position}
use Rattle.sheet.proofs.FormSizes.{record_inside}
use Rattle.sheet_fields.proofs.record_of.Goals as goal

pub record_from-requires : goal.record_from-requires
unfolding record_position
record_from-requires c =
    rw c.record_position.ensures (omega (arith, record_inside c.args.header.form c.args.header.lines c.args.k (omega arith)))

pub returns : goal.returns
unfolding record_of
returns c =
    c.record_from.ensures ∙ ap (record_from c.args.header.form c.args.s.now) c.record_position.ensures
