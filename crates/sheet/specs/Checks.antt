-- A block's check (document 01, "The sheet").
use Rattle.std.specs.Prelude.{ℕ, ◌+◌, ◌*◌, ◌%◌, ◌^◌, List}
use Rattle.words.specs.Below.{total}
use Rattle.buffers.specs.LittleEndian.{number_at}
use Rattle.sheet.specs.Blocks.{block_bytes, check_offset}

-- the sum of its first 127 numbers of 32 bits, plus the block's index, modulo 2 ^ 32
unfoldable pub check_of : List ℕ → ℕ → ℕ
check_of s b = (total 127 (λ j. number_at 4 s (block_bytes * b + 4 * j)) + b) % 2 ^ 32

-- bytes 508 to 511 hold the block's check
abbrev pub check_position : ℕ → ℕ
check_position b = block_bytes * b + check_offset
