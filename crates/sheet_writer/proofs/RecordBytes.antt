-- A record, piece by piece.
use Prim.Native.Nat.{ℕ, ◌+◌, ◌*◌, ◌-◌, ◌≤◌}
use native.Mathlib.Omega.{arith}
use mathlib.Core.Path.{◌≡◌, ap}
use mathlib.Core.List.{List, ◌++◌, append_assoc}
use lib.ListN.{length, replicate, length-append}
use Rattle.buffers.specs.Overwrite.{Wrote}
use Rattle.buffers.specs.LittleEndian.{bytes_of}
use Rattle.buffers.proofs.Appending.{left_start, left_step, left_last}
use Rattle.buffers.proofs.LittleEndian.{length_bytes_of}
use Rattle.trail.specs.declared.Line.{Line}
use Rattle.sheet.specs.Form.{word_bytes, record_bytes}
use Rattle.sheet.specs.declared.Form.{Form}
use Rattle.sheet_encoding.specs.Encoding.{record_bytes_of}
use Rattle.sheet_encoding.proofs.Encoding.{record_length}

-- what stands before the constant: kind, amount, operands and the zero field
abbrev pub operand_bytes : Line → List ℕ
operand_bytes l = bytes_of 1 l.kind ++ (bytes_of 1 l.amount ++ (bytes_of 2 l.first ++ (bytes_of 2 l.second ++ bytes_of 2 0)))

pub operands_length : (l : Line) → length (operand_bytes l) ≡ 8
operands_length l = simp (length-append, length_bytes_of)

module _ (f : Form) (l : Line) where
  abbrev constant : List ℕ
  constant = bytes_of (word_bytes f) l.constant

  abbrev difference : List ℕ
  difference = bytes_of (word_bytes f) l.difference

  abbrev rest : List ℕ
  rest = replicate (record_bytes f - (8 + 2 * word_bytes f)) 0

  record_parts : record_bytes_of f l ≡ operand_bytes l ++ (constant ++ (difference ++ rest))
  unfolding record_bytes_of
  record_parts = simp append_assoc

  pub record_written : {at p₁ p₂ p₃ p₄ : ℕ} {out m₁ m₂ m₃ m₄ : List ℕ} → at + record_bytes f ≤ length out → Wrote at (operand_bytes l) out p₁ m₁
      → Wrote p₁ constant m₁ p₂ m₂ → Wrote p₂ difference m₂ p₃ m₃ → Wrote p₃ rest m₃ p₄ m₄ → Wrote at (record_bytes_of f l) out p₄ m₄
  record_written {at} {out = out} room w₁ w₂ w₃ w₄ =
      let start = left_start at (operand_bytes l ++ (constant ++ (difference ++ rest))) out (omega (arith, ap length record_parts, record_length f l)) in
      rw record_parts (left_last (left_step _ _ (left_step _ _ (left_step _ _ start w₁) w₂) w₃) w₄)
