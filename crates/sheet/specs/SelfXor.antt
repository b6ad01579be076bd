-- A line that XORs a word with itself (document 02, W-205).
use Rattle.std.specs.Prelude.{ℕ, ◌<◌, ◌≡◌, List}
use Rattle.sheet.specs.Fields.{form_of, header_of, record_of}

-- line k of the sheet is kind 1 with equal operands
pub record SelfXorAt (s : List ℕ) (k : ℕ) : Type 0 where
  pub below : k < (header_of s).lines
  pub kind : (record_of (form_of s) s k).kind ≡ 1
  pub operands : (record_of (form_of s) s k).first ≡ (record_of (form_of s) s k).second
