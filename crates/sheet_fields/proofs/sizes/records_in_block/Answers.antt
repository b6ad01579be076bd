-- By cases on the form.
use Rattle.sheet.proofs.FormSizes.{records_in_block_lem}
use Rattle.sheet_fields.proofs.sizes.records_in_block.Goals as goal

pub returns : goal.returns
returns c = records_in_block_lem c.args.form
