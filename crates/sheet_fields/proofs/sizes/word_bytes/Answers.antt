-- By cases on the form.
use Rattle.sheet.proofs.FormSizes.{word_bytes_lem}
use Rattle.sheet_fields.proofs.sizes.word_bytes.Goals as goal

pub returns : goal.returns
returns c = word_bytes_lem c.args.form
