-- Reading asks its questions; the part is held against the lines that it found.
use native.Mathlib.Omega.{arith}
use Rattle.sheet.specs.Fields.{header_of}
use Rattle.answers.proofs.Calling.{refused_by_reading, was_read}
use Rattle.text_parts.proofs.Calls.{part_past, part_asked}
use Rattle.texts.proofs.read_part.Goals as goal

pub returns-in_err-header : goal.returns-in_err-header
returns-in_err-header c = refused_by_reading _ (λ h. h) _ _ _ _ c.from_residual.ensures.1 c.in_err-header.ensures

pub returns-then-header-part : goal.returns-then-header-part
returns-then-header-part c =
    let a = c.args in
    part_past (was_read _ c.in_ok-header.ensures) a.part (omega arith) (header_of a.sheet.now)

pub returns : goal.returns
returns c = part_asked (was_read _ c.in_ok-header.ensures) c.args.part (omega arith)
