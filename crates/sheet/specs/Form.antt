-- The sheet's sizes by its form (document 01, "The sheet"): a table, with a row for each size and an entry for each form. All that is
-- said of sheets elsewhere speaks of a form's sizes, whatever they are.
use Rattle.std.specs.Prelude.{ℕ, ◌+◌, ◌*◌, List, [], ◌∷◌}
use Rattle.sheet.specs.declared.Form.{Form}
use Rattle.sheet.specs.declared.Form.TheVariants.{Narrow}

-- bytes 0 to 3 are hexadecimal 41 52 58 54
abbrev pub mark_of : Form → List ℕ
mark_of Narrow = 0x41 ∷ 0x52 ∷ 0x58 ∷ 0x54 ∷ []

-- the bytes of an input difference, a constant or a difference: 32 bits each
abbrev pub word_bytes : Form → ℕ
word_bytes Narrow = 4

-- the width n is from 2 to 32
abbrev pub width_most : Form → ℕ
width_most Narrow = 32

-- each later block has 31 line records of 16 bytes, then 12 zero bytes
abbrev pub record_bytes : Form → ℕ
record_bytes Narrow = 16

abbrev pub records_in_block : Form → ℕ
records_in_block Narrow = 31

abbrev pub tail_bytes : Form → ℕ
tail_bytes Narrow = 12

-- the blocks of a sheet of 248 lines, its header among them
abbrev pub blocks_most : Form → ℕ
blocks_most Narrow = 9

-- bytes 8 to 39 are the eight input differences: where they end
abbrev pub inputs_end : Form → ℕ
inputs_end f = 8 + 8 * word_bytes f
