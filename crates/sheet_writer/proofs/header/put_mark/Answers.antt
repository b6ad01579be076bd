-- The mark is a number of four bytes.
use Rattle.sheet_writer.proofs.HeaderBytes.{mark_bytes}
use Rattle.sheet_writer.proofs.header.put_mark.Goals as goal

pub returns : goal.returns
returns c = rw (mark_bytes c.args.form) at c.put_number.ensures
