-- What a changed sheet is (document 02, W-206).
use Rattle.std.specs.Prelude.{ℕ, ◌+◌, ◌^◌, ◌<◌, ◌≤◌, ◌≡◌, ◌⊎◌, List, length}
use Rattle.buffers.specs.LittleEndian.{byte_at}
use Rattle.trail.specs.Changing.{with_difference}
use Rattle.sheet.specs.Form.{word_bytes}
use Rattle.sheet.specs.Fields.{form_of, header_of, trail_of}
use Rattle.sheet.specs.Checks.{check_position}
use Rattle.sheet.specs.Questions.{IsAccepted}
use Rattle.changed_sheets.specs.ChangedSheet.{difference_position, block_of_line, changed_sheet}

-- position i lies outside the n bytes at a position
abbrev pub Outside : ℕ → ℕ → ℕ → Type 0
Outside at n i = (i < at) ⊎ (at + n ≤ i)

-- The changed sheet is again an accepted one, and its trail is the trail with that one difference replaced. It is as long as before,
-- and every byte outside the difference field and that block's check is as before.
pub record ChangedRight (s : List ℕ) (k d : ℕ) : Type 0 where
  pub accepted : IsAccepted (changed_sheet s k d)
  pub trail : trail_of (changed_sheet s k d) ≡ with_difference (trail_of s) k d
  pub same_length : length (changed_sheet s k d) ≡ length s
  pub other_bytes : (i : ℕ) → Outside (difference_position (form_of s) k) (word_bytes (form_of s)) i
      → Outside (check_position (block_of_line (form_of s) k)) 4 i → byte_at (changed_sheet s k d) i ≡ byte_at s i

-- for every accepted sheet, every line of it and every difference below 2 ^ n
abbrev pub ChangedSheetsAreRight : Type 0
ChangedSheetsAreRight =
    (s : List ℕ) (k d : ℕ) → IsAccepted s → k < (header_of s).lines → d < 2 ^ (header_of s).width → ChangedRight s k d
