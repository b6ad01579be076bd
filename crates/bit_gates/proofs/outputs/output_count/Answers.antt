-- A second output, the next carry, where the kind has carries and the bit is not the highest.
use mathlib.Core.Path.{sym, ◌∙◌}
use Rattle.bit_gates.proofs.OutputCounts.{none_goes_out, none_carried, one_carried}
use Rattle.bit_gates.proofs.outputs.output_count.Goals as goal

pub returns-then-i-run : goal.returns-then-i-run
returns-then-i-run c = none_goes_out c.args.run c.args.i c.if-i-run.true

pub returns-then-has_carries : goal.returns-then-has_carries
returns-then-has_carries c =
    one_carried c.args.run c.args.i (sym c.has_carries.ensures ∙ c.if-has_carries.true) c.requires c.if-i-run.false

pub returns-else-has_carries : goal.returns-else-has_carries
returns-else-has_carries c =
    none_carried c.args.run c.args.i (sym c.has_carries.ensures ∙ c.if-has_carries.false)
