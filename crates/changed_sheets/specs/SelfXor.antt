-- A change keeps words XORed with themselves (document 02, W-205 and W-206).
use Rattle.std.specs.Prelude.{ℕ, ◌^◌, ◌<◌, ◌↔◌, List}
use Rattle.sheet.specs.Fields.{header_of}
use Rattle.sheet.specs.Questions.{IsAccepted}
use Rattle.sheet.specs.SelfXor.{SelfXorAt}
use Rattle.changed_sheets.specs.ChangedSheet.{changed_sheet}

-- A line of the changed sheet is such a line exactly if it was before, so that sealing refuses the sheet by 23 as before.
abbrev pub ChangingKeepsSelfXors : Type 0
ChangingKeepsSelfXors =
    (s : List ℕ) (k d : ℕ) → IsAccepted s → k < (header_of s).lines → d < 2 ^ (header_of s).width
    → (j : ℕ) → SelfXorAt (changed_sheet s k d) j ↔ SelfXorAt s j
