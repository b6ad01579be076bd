-- The report's lines as their writers put them together: what is written first, and what is left then.
use Prim.Native.Nat.{ℕ, ◌+◌, ◌≤◌}
use native.Mathlib.Omega.{arith}
use mathlib.Core.Path.{◌≡◌, refl, ap, ◌∙◌}
use mathlib.Core.List.{List, [], ◌∷◌, ◌++◌, append_assoc}
use lib.ListN.{length}
use Rattle.buffers.specs.Overwrite.{Wrote}
use Rattle.buffers.proofs.Appending.{Left, left_start, left_fits, left_take}
use Rattle.decimal.specs.Ascii.{ascii}
use Rattle.decimal.specs.Decimal.{decimal, behind}
use Rattle.differential.specs.Report.{Report, report_means}
use Rattle.differential.specs.declared.LineReport.{LineReport}
use Rattle.trail_reports.specs.Totals.{Sums}
use Rattle.report_file.specs.Text.{name_text, line_text, totals_text}

-- ---- the totals

-- the word, then the numbers
pub totals_pieces : (t : Sums) → totals_text t ≡ ascii "total" ++ behind (t.impossible ∷ t.weight ∷ t.chains ∷ [])
unfolding totals_text behind
totals_pieces t = refl

-- ---- a report's line

-- a name, as the code has it with the blank before it, then the report's numbers
abbrev pub fields_text : List ℕ → Report → List ℕ
fields_text name r = name ++ behind (r.weight ∷ r.chains ∷ r.fitting ∷ [])

-- the line's number, then these
line_pieces : (k : ℕ) (r : Report) (name : List ℕ) → ascii " " ++ name_text r.number ≡ name
    → line_text k r ≡ decimal k ++ fields_text name r
unfolding line_text behind
line_pieces k r name e = rw (← e, append_assoc)

module _ (k : ℕ) (given : LineReport) (l : List ℕ) (room : length (line_text k (report_means given)) ≤ length l) where
  line_start : Left 0 (line_text k (report_means given)) l 0 (line_text k (report_means given)) l
  line_start = left_start 0 (line_text k (report_means given)) l (omega arith)

  pub number_room : 0 + length (decimal k) ≤ length l
  number_room =
      let name : List ℕ = ascii " " ++ name_text (report_means given).number in
      left_fits (decimal k) (fields_text name (report_means given)) (line_pieces k (report_means given) name refl) line_start

  -- A match tells which report was given: behind the line's number the fields of the report that it found are left.
  pub line_left : {found : LineReport} → given ≡ found → (name : List ℕ) → ascii " " ++ name_text (report_means found).number ≡ name
      → {p : ℕ} {m : List ℕ} → Wrote 0 (decimal k) l p m
      → Left 0 (line_text k (report_means given)) l p (fields_text name (report_means found)) m
  line_left {found} told name named =
      left_take (ap (λ (r : LineReport). line_text k (report_means r)) told ∙ line_pieces k (report_means found) name named) line_start
