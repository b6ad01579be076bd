-- A sheet that is read has at most 248 lines.
use Rattle.answers.proofs.Calling.{was_read}
use Rattle.printing.proofs.print_sheet.Goals as goal

pub print_parts-requires : goal.print_parts-requires
print_parts-requires g c = (was_read _ c.in-Ok.ensures).limits.lines_most
