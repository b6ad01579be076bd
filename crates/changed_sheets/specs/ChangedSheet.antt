-- A sheet with one stated difference changed (document 02, W-206): its bytes.
use Rattle.std.specs.Prelude.{ℕ, ◌+◌, ◌/◌, List}
use Rattle.buffers.specs.Overwrite.{overwrite}
use Rattle.buffers.specs.LittleEndian.{bytes_of}
use Rattle.sheet.specs.Form.{word_bytes, records_in_block}
use Rattle.sheet.specs.Fields.{form_of, record_position}
use Rattle.sheet.specs.Checks.{check_of, check_position}
use Rattle.sheet.specs.declared.Form.{Form}

-- where line k states its difference: the last field of its record, after the constant
abbrev pub difference_position : Form → ℕ → ℕ
difference_position f k = record_position f k + 8 + word_bytes f

-- the block that line k's record stands in
abbrev pub block_of_line : Form → ℕ → ℕ
block_of_line f k = 1 + k / records_in_block f

-- line k's stated difference replaced by d
abbrev pub with_stated : List ℕ → ℕ → ℕ → List ℕ
with_stated s k d = overwrite (difference_position (form_of s) k) (bytes_of (word_bytes (form_of s)) d) s

-- block b's check renewed
abbrev pub with_check : ℕ → List ℕ → List ℕ
with_check b s = overwrite (check_position b) (bytes_of 4 (check_of s b)) s

-- A change replaces the stated difference at a line and renews that block's check.
unfoldable pub changed_sheet : List ℕ → ℕ → ℕ → List ℕ
changed_sheet s k d = with_check (block_of_line (form_of s) k) (with_stated s k d)
