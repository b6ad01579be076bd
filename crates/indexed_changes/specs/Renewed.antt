-- The report renewed after a change (document 02, W-208).
use Rattle.std.specs.Prelude.{ℕ, ◌+◌, ◌<◌, ◌≡◌, ◌≢◌, List, [], ◌∷◌, length}
use Rattle.buffers.specs.Overwrite.{overwrite}
use Rattle.buffers.specs.LittleEndian.{byte_at}
use Rattle.trail.specs.Trail.{Trail, input_count, line_count, line_at}
use Rattle.trail.specs.Changing.{with_difference}
use Rattle.trail_reports.specs.Lines.{line_report}
use Rattle.report_buffer.specs.Buffer.{report_size, report_bytes, sheet_bytes, bytes_needed}
use Rattle.sheet_indexes.specs.Users.{users, Names, Has}
use Rattle.changed_sheets.specs.Theorem.{Outside}

-- line i's report written anew, where it stands: behind those of the lines before it
abbrev pub with_report : Trail → ℕ → List ℕ → List ℕ
with_report t i report = overwrite (bytes_needed i) (report_bytes (line_report t i)) report

-- the reports of some lines written anew, one after the other
unfoldable pub with_reports : Trail → List ℕ → List ℕ → List ℕ
with_reports t [] report = report
with_reports t (i ∷ is) report = with_reports t is (with_report t i report)

-- Where line k was changed and t is the trail since: the report of line k is written anew, and those of the lines that name its word.
abbrev pub renewed : Trail → ℕ → List ℕ → List ℕ
renewed t k report = with_reports t (k ∷ users t (input_count t + k)) report

-- No byte is written but those of these lines' reports, whatever the report was.
abbrev pub RenewsOnlyThese : Type 0
RenewsOnlyThese =
    (t : Trail) (k : ℕ) (report : List ℕ) (q : ℕ) → k < line_count t → length report ≡ bytes_needed (line_count t)
    → ((i : ℕ) → Has (k ∷ users t (input_count t + k)) i → Outside (bytes_needed i) report_size q)
    → byte_at (renewed t k report) q ≡ byte_at report q

-- ---- why that is enough

-- After a change of line k, line i's report is the same, and its bytes in the report buffer are.
pub record SameReport (t : Trail) (k d i : ℕ) : Type 0 where
  pub report : line_report (with_difference t k d) i ≡ line_report t i
  pub bytes : (q : ℕ) → q < report_size → byte_at (sheet_bytes (with_difference t k d)) (bytes_needed i + q) ≡ byte_at (sheet_bytes t) (bytes_needed i + q)

-- of all lines but the changed one and those naming its word. A changed sheet's trail is such a trail (`ChangedRight`, W-206).
abbrev pub OtherReportsStay : Type 0
OtherReportsStay =
    (t : Trail) (k d i : ℕ) → i < line_count t → i ≢ k → (Names (line_at t i) (input_count t + k) → ⊥) → SameReport t k d i

-- So the trail's own report, renewed, is the one made afresh.
abbrev pub RenewedIsAfresh : Type 0
RenewedIsAfresh =
    (t : Trail) (k d : ℕ) → k < line_count t → renewed (with_difference t k d) k (sheet_bytes t) ≡ sheet_bytes (with_difference t k d)
