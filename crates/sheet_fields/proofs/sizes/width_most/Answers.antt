-- By cases on the form.
use Rattle.sheet.proofs.FormSizes.{width_most_lem}
use Rattle.sheet_fields.proofs.sizes.width_most.Goals as goal

pub returns : goal.returns
returns c = width_most_lem c.args.form
