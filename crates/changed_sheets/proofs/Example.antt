-- Which bytes a change writes, by computation: lines 30 and 31, the last of block 1 and the first of block 2, in bytes that are zero.
use mathlib.Core.Path.{◌≡◌, refl}
use mathlib.Core.List.{[], ◌∷◌, ◌++◌}
use lib.ListN.{replicate}
use Rattle.words.specs.Below.{total}
use Rattle.buffers.specs.Overwrite.{overwrite}
use Rattle.buffers.specs.LittleEndian.{number_at, bytes_of}
use Rattle.sheet.specs.Fields.{form_of, record_position}
use Rattle.sheet.specs.Checks.{check_of}
use Rattle.changed_sheets.specs.ChangedSheet.{changed_sheet}

pub record Written : Type 0 where
  pub of_line_30 : changed_sheet (replicate 1536 0) 30 0x01020304
      ≡ replicate 1004 0 ++ (4 ∷ 3 ∷ 2 ∷ 1 ∷ replicate 12 0 ++ (5 ∷ 3 ∷ 2 ∷ 1 ∷ replicate 512 0))
  pub of_line_31 : changed_sheet (replicate 1536 0) 31 0x01020304
      ≡ replicate 1036 0 ++ (4 ∷ 3 ∷ 2 ∷ 1 ∷ replicate 492 0 ++ (6 ∷ 3 ∷ 2 ∷ 1 ∷ []))

pub written : Written
unfolding changed_sheet form_of record_position overwrite check_of number_at bytes_of total
written = record { of_line_30 = refl; of_line_31 = refl }
