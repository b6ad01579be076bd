-- A sheet's blocks, which are the same in every form (document 01, "The sheet").
use Rattle.std.specs.Prelude.{ℕ}

-- blocks of 512 bytes
abbrev pub block_bytes : ℕ
block_bytes = 512

-- bytes 508 to 511 of a block hold its check
abbrev pub check_offset : ℕ
check_offset = 508

-- a sheet's length is from 1,024 to 4,608
abbrev pub length_least : ℕ
length_least = 1024

abbrev pub length_most : ℕ
length_most = 4608
