-- `report_text` reads and asks for the part, and then only for the room.
use Rattle.sheet.specs.Fields.{trail_of}
use Rattle.answers.proofs.Calling.{refuses_too, kept_too}
use Rattle.text_parts.proofs.Calls.{part_read, part_there}
use Rattle.report_file.specs.Parts.{report_part}
use Rattle.texts.proofs.report_text.Goals as goal

pub returns-in_err-header : goal.returns-in_err-header
returns-in_err-header c = kept_too _ _ _ _ _ c.from_residual.ensures.1 (refuses_too _ _ _ _ c.in_err-header.ensures)

pub invariant_of-sheet : goal.invariant_of-sheet
invariant_of-sheet c = record { read = (part_read _ _ _ c.in_ok-header.ensures).read }

pub write_part-requires : goal.write_part-requires
write_part-requires c = (part_read _ _ _ c.in_ok-header.ensures).most

pub returns : goal.returns
returns c =
    let a = c.args in
    let text = report_part (trail_of a.sheet.now) a.part in
    let read = part_read _ _ _ c.in_ok-header.ensures in
    rw (part_there a.sheet.now a.part text a.out.now read.passed) c.write_part.ensures
