-- By cases on the form.
use Rattle.sheet.proofs.FormSizes.{record_bytes_lem}
use Rattle.sheet_fields.proofs.sizes.record_bytes.Goals as goal

pub returns : goal.returns
returns c = record_bytes_lem c.args.form
