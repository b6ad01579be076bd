-- Each part of the header at its offset.
use Rattle.sheet.specs.Fields.{form_of}
use Rattle.sheet_fields.proofs.header_of.Goals as goal

pub returns : goal.returns
unfolding form_of
returns c = cc
