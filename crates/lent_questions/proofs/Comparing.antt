-- A lent list held against one that was made.
use Prim.Native.Nat.{ℕ, ◌≤◌}
use native.Mathlib.Nat.{sub-zero}
use mathlib.Core.Path.{◌≡◌, refl, sym, ap, ◌∙◌}
use mathlib.Core.Logic.{◌≢◌}
use mathlib.Core.Bool.{Bool, true, false}
use mathlib.Core.List.{List}
use lib.Dec.{eqb}
use lib.ListN.{length, take}
use lib.Pointwise.{pointwise, bytes_decides}
use Rattle.std.proofs.lemmas.Bool.Decides.{same_from_decides}
use Rattle.buffers.specs.Overwrite.{Wrote}
use Rattle.buffers.proofs.Appending.{wrote_taken}
use Rattle.trail.specs.Trail.{line_count}
use Rattle.sheet.specs.Fields.{trail_of}
use Rattle.sheet.specs.Facts.{SheetRead}
use Rattle.sheet.specs.declared.Header.{Header}
use Rattle.trail_reports.specs.Lines.{line_report}
use Rattle.report_buffer.specs.Buffer.{sheet_bytes, bytes_needed}
use Rattle.report_buffer.proofs.ReportBytes.{length_reports}
use Rattle.indexed_changes.specs.IndexedCall.{is_own}
use Rattle.indexed_changes.proofs.Own.{own_exactly}

module _ (own lent : List ℕ) where
  pub other_length : length lent ≢ length own → false ≡ is_own own lent
  other_length other = at (is_own own lent) refl
    where
      at : (b : Bool) → is_own own lent ≡ b → false ≡ b
      at false e = refl
      at true e = absurd (other (ap length ((own_exactly own lent).0 e)))

  -- what was made stands at the start of an array
  pub own_compared : {l m : List ℕ} {p : ℕ} → length own ≤ length l → Wrote 0 own l p m → pointwise eqb lent (take p m) ≡ is_own own lent
  own_compared {m = m} {p} room wrote =
      ap (λ (n : ℕ). pointwise eqb lent (take n m)) (sym (sub-zero p))
      ∙ ap (pointwise eqb lent) (wrote_taken room wrote)
      ∙ same_from_decides _ _ (bytes_decides lent own) (own_exactly own lent)

-- how long a report is
pub report_length : {s : List ℕ} {h : Header} → SheetRead s h → length (sheet_bytes (trail_of s)) ≡ bytes_needed h.lines
unfolding sheet_bytes
report_length {s} read = length_reports (line_report (trail_of s)) (line_count (trail_of s)) ∙ ap bytes_needed read.lines
