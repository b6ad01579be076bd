-- A sheet's fields at their offsets, and the trail that they spell (document 01, "The sheet").
use Rattle.std.specs.Prelude.{ℕ, ◌+◌, ◌*◌, ◌/◌, ◌%◌, List, length}
use Rattle.words.specs.Below.{tabulate}
use Rattle.buffers.specs.LittleEndian.{byte_at, number_at}
use Rattle.trail.specs.declared.Line.{Line}
use Rattle.trail.specs.Trail.{Trail}
use Rattle.sheet.specs.Form.{word_bytes, record_bytes, records_in_block}
use Rattle.sheet.specs.Blocks.{block_bytes}
use Rattle.sheet.specs.declared.Form.{Form}
use Rattle.sheet.specs.declared.Form.TheVariants.{Narrow}
use Rattle.sheet.specs.declared.Header.{Header}
use Rattle.sheet.specs.declared.Record.{Record}

-- The form that the mark, bytes 0 to 3, tells: there is one mark, and one form. Shut, so that what is said of sheets holds whatever
-- the form.
unfoldable pub form_of : List ℕ → Form
form_of s = Narrow

-- The form; the blocks; byte 4 the width n; byte 5 the input count m; bytes 6, 7 the line count L.
abbrev pub header_of : List ℕ → Header
header_of s = record {
  form = form_of s;
  blocks = length s / block_bytes;
  width = byte_at s 4;
  inputs = byte_at s 5;
  lines = number_at 2 s 6;
}

-- bytes 8 to 39: eight input differences of 32 bits
abbrev pub input_difference : Form → List ℕ → ℕ → ℕ
input_difference f s j = number_at (word_bytes f) s (8 + word_bytes f * j)

-- a record: kind, amount (a byte each), first operand, second operand, zero (16 bits each), constant, difference (32 bits each)
abbrev pub record_from : Form → List ℕ → ℕ → Record
record_from f s i = record {
  kind = byte_at s i;
  amount = byte_at s (i + 1);
  first = number_at 2 s (i + 2);
  second = number_at 2 s (i + 4);
  zero = number_at 2 s (i + 6);
  constant = number_at (word_bytes f) s (i + 8);
  difference = number_at (word_bytes f) s (i + 8 + word_bytes f);
}

-- each block after block 0 has 31 line records of 16 bytes: where line k's record stands
unfoldable pub record_position : Form → ℕ → ℕ
record_position f k = block_bytes * (1 + k / records_in_block f) + record_bytes f * (k % records_in_block f)

unfoldable pub record_of : Form → List ℕ → ℕ → Record
record_of f s k = record_from f s (record_position f k)

-- a record's line: all its fields but the zero field
abbrev pub line_of : Record → Line
line_of r = record {
  kind = r.kind;
  amount = r.amount;
  first = r.first;
  second = r.second;
  constant = r.constant;
  difference = r.difference;
}

-- the trail that a sheet's bytes spell
unfoldable pub trail_of : List ℕ → Trail
trail_of s = record {
  width = (header_of s).width;
  inputs = tabulate (header_of s).inputs (input_difference (form_of s) s);
  lines = tabulate (header_of s).lines (λ k. line_of (record_of (form_of s) s k));
}
