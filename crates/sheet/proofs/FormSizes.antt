-- Laws of the forms' sizes: arithmetic with a form's own numbers, a case for each form. Laws and proofs elsewhere take any form and
-- cite these.
use Prim.Native.Nat.{ℕ, ◌+◌, ◌*◌, ◌-◌, ◌/◌, ◌%◌, ◌^◌, ◌<◌, ◌≤◌}
use native.Mathlib.Omega.{arith}
use mathlib.Core.Path.{◌≡◌, refl}
use mathlib.Core.List.{List}
use Rattle.buffers.specs.LittleEndian.{byte_at}
use Rattle.sheet.specs.Blocks.{block_bytes, check_offset, length_most}
use Rattle.sheet.specs.Fields.{form_of, record_position}
use Rattle.sheet.specs.Form.{word_bytes, width_most, record_bytes, records_in_block, tail_bytes, blocks_most, inputs_end}
use Rattle.sheet.specs.Questions.{line_blocks}
use Rattle.sheet.specs.declared.Form.{Form}
use Rattle.sheet.specs.declared.Form.TheVariants.{Narrow}

-- what holds of each form's sizes
pub record Sizes (f : Form) : Type 0 where
  -- a word of the largest width fits 64 bits
  pub width_fits : width_most f ≤ 64
  -- the header's input differences end before its check
  pub inputs_inside : inputs_end f ≤ check_offset
  -- constant and difference stand in a record after its first eight bytes
  pub record_holds : 8 + word_bytes f + word_bytes f ≤ record_bytes f
  -- a block has records, and fewer than bytes
  pub records_least : 1 ≤ records_in_block f
  pub records_most : records_in_block f ≤ block_bytes
  -- the records and the zero bytes after them fill a block up to its check
  pub filled : record_bytes f * records_in_block f + tail_bytes f ≡ check_offset
  -- 248 lines need the most blocks
  pub blocks_full : 1 + line_blocks f 248 ≡ blocks_most f

pub sizes : (f : Form) → Sizes f
sizes Narrow = record {
  width_fits = omega arith;
  inputs_inside = omega arith;
  record_holds = omega arith;
  records_least = omega arith;
  records_most = omega arith;
  filled = refl;
  blocks_full = refl;
}

-- while no form has wider words
pub width_below : (f : Form) → width_most f ≤ 32
width_below Narrow = omega arith

-- the bytes of a word hold a word of the largest width
pub words_hold : (f : Form) → 2 ^ width_most f ≤ 256 ^ word_bytes f
words_hold Narrow = omega arith

-- ---- the header

-- input difference j lies among the eight
pub input_inside : (f : Form) (j : ℕ) → j < 8 → 8 + word_bytes f * j + word_bytes f ≤ inputs_end f
input_inside Narrow j l = omega arith

-- no sheet has more blocks than the most
pub blocks_enough : (f : Form) (lines : ℕ) → lines ≤ 248 → 1 + line_blocks f lines ≤ blocks_most f
blocks_enough Narrow lines l = omega arith

pub blocks_fit : (f : Form) → block_bytes * blocks_most f ≤ length_most
blocks_fit Narrow = omega arith

-- ---- the line blocks

-- a line's record lies in the blocks that the lines need
pub record_inside : (f : Form) (lines k : ℕ) → k < lines
    → block_bytes * (1 + k / records_in_block f) + record_bytes f * (k % records_in_block f) + record_bytes f ≤ block_bytes * (1 + line_blocks f lines)
record_inside Narrow lines k l = omega arith

-- no record reaches its block's check
pub records_end : (f : Form) (j : ℕ) → j ≤ records_in_block f → record_bytes f * j ≤ check_offset
records_end Narrow j l = omega arith

pub record_ends : (f : Form) (j : ℕ) → j < records_in_block f → record_bytes f * j + record_bytes f ≤ check_offset
record_ends Narrow j l = omega arith

pub line_ends : (f : Form) (k : ℕ) → record_bytes f * (k % records_in_block f) + record_bytes f ≤ check_offset
line_ends Narrow k = omega arith

pub line_before_rest : (f : Form) (k : ℕ) → record_bytes f * (k % records_in_block f) + record_bytes f ≤ record_bytes f * records_in_block f
line_before_rest Narrow k = omega arith

-- record j of line block 1 + i is that of line 31 i + j
pub record_at : (f : Form) (i j : ℕ) → j < records_in_block f
    → record_position f (records_in_block f * i + j) ≡ block_bytes * (1 + i) + record_bytes f * j
unfolding record_position
record_at Narrow i j l = omega arith

-- a line's record ends before the next line's begins
pub records_apart : (f : Form) (i k : ℕ) → i < k → record_position f i + record_bytes f ≤ record_position f k
unfolding record_position
records_apart Narrow i k l = omega arith

-- a word takes whole numbers of 32 bits, and so does what stands before a line's difference in its block
pub word_numbers : (f : Form) → word_bytes f ≡ 4 * (word_bytes f / 4)
word_numbers Narrow = refl

pub difference_numbers : (f : Form) (k : ℕ)
    → record_position f k + 8 + word_bytes f ≡ block_bytes * (1 + k / records_in_block f) + 4 * ((record_bytes f * (k % records_in_block f) + 8 + word_bytes f) / 4)
unfolding record_position
difference_numbers Narrow k = omega arith

-- the lines before a block are fewer than the bytes before it
pub lines_before : (f : Form) (i : ℕ) → records_in_block f * i ≤ block_bytes * i
lines_before Narrow i = omega arith

-- from record j to the check: the records from j on, and the zero bytes
pub rest_bytes : (f : Form) (j : ℕ) → j ≤ records_in_block f → check_offset - record_bytes f * j ≡ record_bytes f * (records_in_block f - j) + tail_bytes f
rest_bytes Narrow j l = omega arith

pub rest_ends : (f : Form) (j : ℕ) → j ≤ records_in_block f → record_bytes f * j + record_bytes f * (records_in_block f - j) ≡ record_bytes f * records_in_block f
rest_ends Narrow j l = omega arith

-- ---- where the mark is read

-- lists with the same mark have the same form
pub same_form : (s t : List ℕ) → ((i : ℕ) → i < 4 → byte_at s i ≡ byte_at t i) → form_of s ≡ form_of t
unfolding form_of
same_form s t e = refl

-- ---- the sizes in the code

pub word_bytes_lem : (f : Form) → 4 ≡ word_bytes f
word_bytes_lem Narrow = refl

pub width_most_lem : (f : Form) → 32 ≡ width_most f
width_most_lem Narrow = refl

pub record_bytes_lem : (f : Form) → 16 ≡ record_bytes f
record_bytes_lem Narrow = refl

pub records_in_block_lem : (f : Form) → 31 ≡ records_in_block f
records_in_block_lem Narrow = refl
