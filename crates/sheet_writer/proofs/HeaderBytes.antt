-- Block 0, piece by piece.
use Prim.Native.Nat.{ℕ, ◌-◌, ◌≤◌}
use native.Mathlib.Omega.{arith}
use mathlib.Core.Path.{◌≡◌, refl}
use mathlib.Core.List.{List}
use lib.ListN.{length, get_or, replicate}
use Rattle.words.specs.Below.{concat}
use Rattle.buffers.specs.Overwrite.{Wrote}
use Rattle.buffers.specs.LittleEndian.{bytes_of}
use Rattle.buffers.proofs.Appending.{left_start, left_step, left_last}
use Rattle.trail.specs.Trail.{Trail, input_count, line_count}
use Rattle.sheet.specs.Form.{mark_of, word_bytes, inputs_end}
use Rattle.sheet.specs.Blocks.{block_bytes}
use Rattle.sheet.specs.declared.Form.{Form}
use Rattle.sheet.specs.declared.Form.TheVariants.{Narrow}
use Rattle.sheet_encoding.specs.Encoding.{header_block}
use Rattle.sheet_encoding.proofs.Encoding.{header_length}

-- the mark as the code writes it
pub mark_bytes : (f : Form) → bytes_of 4 0x54585241 ≡ mark_of f
unfolding bytes_of
mark_bytes Narrow = refl

module _ (f : Form) (t : Trail) where
  abbrev pub input_bytes : List ℕ
  input_bytes = concat 8 (λ j. bytes_of (word_bytes f) (get_or t.inputs j 0))

  pub header_written : {p₁ p₂ p₃ p₄ p₅ p₆ : ℕ} {out m₁ m₂ m₃ m₄ m₅ m₆ : List ℕ} → block_bytes ≤ length out → Wrote 0 (mark_of f) out p₁ m₁
      → Wrote p₁ (bytes_of 1 t.width) m₁ p₂ m₂ → Wrote p₂ (bytes_of 1 (input_count t)) m₂ p₃ m₃ → Wrote p₃ (bytes_of 2 (line_count t)) m₃ p₄ m₄
      → Wrote p₄ input_bytes m₄ p₅ m₅ → Wrote p₅ (replicate (block_bytes - inputs_end f) 0) m₅ p₆ m₆ → Wrote 0 (header_block f t) out p₆ m₆
  unfolding header_block
  header_written {out = out} room w₁ w₂ w₃ w₄ w₅ w₆ =
      let start = left_start 0 (header_block f t) out (omega (arith, header_length f t)) in
      left_last (left_step _ _ (left_step _ _ (left_step _ _ (left_step _ _ (left_step _ _ start w₁) w₂) w₃) w₄) w₅) w₆
