-- A sheet that was changed: its own index is the one before, and its own report is the one before, renewed.
use Prim.Native.Nat.{ℕ, ◌^◌, ◌<◌}
use native.Mathlib.Omega.{arith}
use mathlib.Core.Path.{◌≡◌, refl, sym, ap, ◌∙◌}
use mathlib.Core.List.{List}
use Rattle.trail.specs.Trail.{Trail, line_count}
use Rattle.trail.specs.Changing.{with_difference}
use Rattle.sheet.specs.Fields.{header_of, trail_of}
use Rattle.sheet.specs.Questions.{IsAccepted}
use Rattle.sheet.proofs.WellFormed.{has_read}
use Rattle.report_buffer.specs.Buffer.{sheet_bytes}
use Rattle.sheet_indexes.specs.Index.{index_of}
use Rattle.sheet_indexes.proofs.Stays.{index_stays}
use Rattle.changed_sheets.specs.ChangedSheet.{changed_sheet}
use Rattle.changed_sheets.specs.Theorem.{ChangedRight}
use Rattle.changed_sheets.proofs.Changed.{changed_sheets_are_right}
use Rattle.indexed_changes.specs.Renewed.{renewed}
use Rattle.indexed_changes.specs.Theorem.{own_index, own_report}
use Rattle.indexed_changes.proofs.Renewed.{renewed_is_afresh}

module _ (s : List ℕ) (k d : ℕ) (accepts : IsAccepted s) (known : k < (header_of s).lines) (word : d < 2 ^ (header_of s).width) where
  pub right : ChangedRight s k d
  right = changed_sheets_are_right s k d accepts known word

  there : k < line_count (trail_of s)
  there = omega (arith, (has_read s (header_of s) accepts refl).lines)

  pub report_renewed : renewed (trail_of (changed_sheet s k d)) k (own_report s) ≡ own_report (changed_sheet s k d)
  report_renewed =
      ap (λ (t : Trail). renewed t k (own_report s)) right.trail
      ∙ renewed_is_afresh (trail_of s) k d there
      ∙ ap sheet_bytes (sym right.trail)

  pub index_left : own_index (changed_sheet s k d) ≡ own_index s
  index_left = ap index_of right.trail ∙ index_stays (trail_of s) k d
