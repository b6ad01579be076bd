-- The bytes of a trail are right: read piece by piece, and accepted by the law on checks.
use mathlib.Core.Path.{◌∙◌}
use Rattle.sheet_encoding.specs.Encoding.{encode, EncodingIsRight}
use Rattle.sealed_sheets.proofs.Checked.{checked_accepted, checked_trail}
use Rattle.sheet_encoding.proofs.Encoding.{encode_form, encode_trail}
use Rattle.sheet_encoding.proofs.Questions.{length_asked, later_asked}

pub encoding_is_right : EncodingIsRight
encoding_is_right f t good sized =
    let asked = length_asked f good sized in
    let later = later_asked f good sized in
    record {
      same_form = encode_form f good sized;
      same_trail = encode_trail f good sized;
      accepted = checked_accepted (encode f t) asked later;
      checked_trail = checked_trail (encode f t) asked later ∙ encode_trail f good sized;
    }
