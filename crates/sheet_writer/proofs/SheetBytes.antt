-- A whole sheet, block by block, and its checks.
use Prim.Native.Nat.{ℕ, ◌+◌, ◌*◌}
use native.Mathlib.Omega.{arith}
use mathlib.Core.Path.{◌≡◌, ap₂, ◌∙◌}
use mathlib.Core.List.{List}
use lib.ListN.{length}
use Rattle.words.specs.Below.{concat}
use Rattle.buffers.specs.Overwrite.{Wrote}
use Rattle.buffers.proofs.Overwrite.{overwrite_all}
use Rattle.buffers.proofs.Appending.{wrote_append}
use Rattle.trail.specs.Trail.{Trail, line_count}
use Rattle.sheet.specs.Fields.{header_of}
use Rattle.sheet.specs.Questions.{line_blocks}
use Rattle.sheet.specs.declared.Form.{Form}
use Rattle.sealed_sheets.specs.Sealing.{with_checks}
use Rattle.sealed_sheets.proofs.WrittenChecks.{checks_same}
use Rattle.sheet_encoding.specs.Encoding.{header_block, line_block, encode, sheet_of}
use Rattle.sheet_encoding.proofs.Encoding.{header_length, encode_length}

-- as long as its blocks
pub sheet_length : (f : Form) (t : Trail) → length (sheet_of f t) ≡ 512 * (1 + line_blocks f (line_count t))
sheet_length f t =
    (checks_same (encode f t) (header_of (encode f t)).blocks (omega arith)).same_length ∙ encode_length f t ∙ omega arith

module _ (f : Form) (t : Trail) {out : List ℕ} (room : length out ≡ 512 * (1 + line_blocks f (line_count t))) where
  -- block 0 and the line blocks fill the buffer
  encoded : {p q : ℕ} {m₁ m₂ : List ℕ} → Wrote 0 (header_block f t) out p m₁ → Wrote p (concat (line_blocks f (line_count t)) (line_block f t)) m₁ q m₂
      → m₂ ≡ encode f t
  unfolding encode
  encoded w₁ w₂ =
      (wrote_append (omega (arith, header_length f t)) w₁ w₂).now_is ∙ overwrite_all (encode f t) out (encode_length f t ∙ omega arith)

  pub sheet_written : {p q : ℕ} {m₁ m₂ m₃ : List ℕ} → Wrote 0 (header_block f t) out p m₁
      → Wrote p (concat (line_blocks f (line_count t)) (line_block f t)) m₁ q m₂ → m₃ ≡ with_checks (1 + line_blocks f (line_count t)) m₂ → m₃ ≡ sheet_of f t
  sheet_written w₁ w₂ checks =
      let blocks : 1 + line_blocks f (line_count t) ≡ (header_of (encode f t)).blocks = omega (arith, encode_length f t) in
      checks ∙ ap₂ with_checks blocks (encoded w₁ w₂)
