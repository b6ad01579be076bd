-- The report buffer line by line.
use Prim.Native.Nat.{ℕ, zero, suc, ◌+◌, ◌≤◌}
use native.Mathlib.Numerals.{add-one}
use native.Mathlib.Omega.{arith}
use mathlib.Core.Path.{◌≡◌, refl, ◌∙◌}
use mathlib.Core.List.{List}
use lib.ListN.{length, length-append}
use Rattle.words.specs.Below.{concat}
use Rattle.buffers.specs.Overwrite.{Wrote}
use Rattle.buffers.specs.LittleEndian.{bytes_of}
use Rattle.buffers.proofs.Appending.{wrote_none, wrote_append}
use Rattle.buffers.proofs.LittleEndian.{length_bytes_of}
use Rattle.differential.specs.Report.{Report}
use Rattle.report_buffer.specs.Buffer.{report_size, field_bytes, report_bytes, bytes_needed}

pub length_fields : (number chains weight fitting : ℕ) → length (field_bytes number chains weight fitting) ≡ report_size
unfolding field_bytes
length_fields number chains weight fitting = simp (length-append, length_bytes_of)

module _ (report : ℕ → Report) where
  abbrev bytes : ℕ → List ℕ
  bytes k = concat k (λ i. report_bytes (report i))

  pub length_reports : (k : ℕ) → length (bytes k) ≡ bytes_needed k
  unfolding concat
  length_reports zero = refl
  length_reports (suc k) =
      length-append (bytes k) (report_bytes (report k))
      ∙ omega (arith, length_reports k, length_fields (report k).number (report k).chains (report k).weight (report k).fitting)

  pub reports_none : (l : List ℕ) → Wrote 0 (bytes 0) l 0 l
  unfolding concat
  reports_none l = wrote_none 0 l

  -- the next position
  pub reports_place : (k : ℕ) {l : List ℕ} {p : ℕ} {out : List ℕ} → Wrote 0 (bytes k) l p out → p ≡ bytes_needed k
  reports_place k w = omega (arith, length_reports k)

  pub reports_next : (k : ℕ) {l : List ℕ} {p q : ℕ} {out after : List ℕ} → bytes_needed k ≤ length l → Wrote 0 (bytes k) l p out
      → Wrote p (report_bytes (report k)) out q after → Wrote 0 (bytes (k + 1)) l q after
  unfolding concat
  reports_next k room w v = rw add-one (wrote_append (omega (arith, length_reports k)) w v)

-- ---- one report, field by field

module _ (number chains weight fitting : ℕ) {at p₁ p₂ p₃ p₄ p₅ : ℕ} {l m₁ m₂ m₃ m₄ m₅ : List ℕ} where
  pub fields_written : at + report_size ≤ length l → length m₁ ≡ length l → length m₂ ≡ length l → length m₃ ≡ length l
      → Wrote at (bytes_of 1 number) l p₁ m₁ → Wrote p₁ (bytes_of 1 0) m₁ p₂ m₂ → Wrote p₂ (bytes_of 2 chains) m₂ p₃ m₃
      → Wrote p₃ (bytes_of 4 weight) m₃ p₄ m₄ → Wrote p₄ (bytes_of 8 fitting) m₄ p₅ m₅
      → Wrote at (field_bytes number chains weight fitting) l p₅ m₅
  unfolding field_bytes
  fields_written room e₁ e₂ e₃ w₁ w₂ w₃ w₄ w₅ =
      let n₁ = length_bytes_of 1 number in
      let n₂ = length_bytes_of 1 0 in
      let n₃ = length_bytes_of 2 chains in
      let n₄ = length_bytes_of 4 weight in
      wrote_append (omega arith) w₁ (wrote_append (omega arith) w₂ (wrote_append (omega arith) w₃ (wrote_append (omega arith) w₄ w₅)))
