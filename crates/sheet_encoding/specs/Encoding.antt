-- The format's writer: the bytes of a trail, by the form, its checks not yet written (document 01, "The sheet").
use Rattle.std.specs.Prelude.{ℕ, ◌+◌, ◌*◌, ◌-◌, ◌≡◌, List, ◌++◌, get_or, replicate}
use Rattle.words.specs.Below.{concat}
use Rattle.buffers.specs.LittleEndian.{bytes_of}
use Rattle.trail.specs.declared.Line.{Line}
use Rattle.trail.specs.Trail.{Trail, input_count, line_count, line_at}
use Rattle.sheet.specs.Form.{mark_of, word_bytes, width_most, record_bytes, records_in_block, inputs_end}
use Rattle.sheet.specs.Blocks.{block_bytes}
use Rattle.trail.specs.WellFormed.{WellFormed, Sized}
use Rattle.sheet.specs.Questions.{line_blocks}
use Rattle.sheet.specs.Fields.{form_of, header_of, trail_of}
use Rattle.sheet.specs.Questions.{IsAccepted}
use Rattle.sealed_sheets.specs.Sealing.{with_checks}
use Rattle.sheet.specs.declared.Form.{Form}

-- a record: kind, amount (a byte each), first operand, second operand, zero (16 bits each), constant, difference; zeros up to its size
unfoldable pub record_bytes_of : Form → Line → List ℕ
record_bytes_of f l =
    bytes_of 1 l.kind
    ++ (bytes_of 1 l.amount
    ++ (bytes_of 2 l.first
    ++ (bytes_of 2 l.second
    ++ (bytes_of 2 0
    ++ (bytes_of (word_bytes f) l.constant
    ++ (bytes_of (word_bytes f) l.difference ++ replicate (record_bytes f - (8 + 2 * word_bytes f)) 0))))))

-- block 0: the mark; byte 4 the width n; byte 5 the input count m; bytes 6, 7 the line count L; eight input differences, those past
-- m zero; the rest zero
unfoldable pub header_block : Form → Trail → List ℕ
header_block f t =
    mark_of f
    ++ (bytes_of 1 t.width
    ++ (bytes_of 1 (input_count t)
    ++ (bytes_of 2 (line_count t)
    ++ (concat 8 (λ j. bytes_of (word_bytes f) (get_or t.inputs j 0)) ++ replicate (block_bytes - inputs_end f) 0))))

-- a later block has line records, those past L zero, then zero bytes
unfoldable pub line_block : Form → Trail → ℕ → List ℕ
line_block f t i =
    concat (records_in_block f) (λ j. record_bytes_of f (line_at t (records_in_block f * i + j))) ++ replicate (block_bytes - record_bytes f * records_in_block f) 0

-- block 0, and just as many line blocks as L needs
unfoldable pub encode : Form → Trail → List ℕ
encode f t = header_block f t ++ concat (line_blocks f (line_count t)) (line_block f t)

-- the sheet of a trail: its bytes, with the check of every block
abbrev pub sheet_of : Form → Trail → List ℕ
sheet_of f t = with_checks (header_of (encode f t)).blocks (encode f t)

-- The bytes of a trail are of their form and say the trail; with their checks written they are accepted, and say it still.
pub record Encoded (f : Form) (t : Trail) : Type 0 where
  pub same_form : form_of (encode f t) ≡ f
  pub same_trail : trail_of (encode f t) ≡ t
  pub accepted : IsAccepted (sheet_of f t)
  pub checked_trail : trail_of (sheet_of f t) ≡ t

abbrev pub EncodingIsRight : Type 0
EncodingIsRight = (f : Form) (t : Trail) → WellFormed t → Sized (width_most f) t → Encoded f t
