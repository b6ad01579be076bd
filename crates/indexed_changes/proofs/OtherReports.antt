-- A line that was not changed, and does not name the changed line's word, has the same report.
use Prim.Native.Nat.{ℕ, ◌+◌, ◌<◌}
use native.Mathlib.Omega.{arith}
use mathlib.Core.Path.{◌≡◌, refl, sym, ap, subst, ◌∙◌}
use mathlib.Core.Logic.{◌≢◌, inl, inr}
use mathlib.Core.Bool.{true}
use Rattle.words.specs.Below.{concat}
use Rattle.buffers.specs.LittleEndian.{byte_at}
use Rattle.trail.specs.declared.Line.{Line}
use Rattle.trail.specs.Kinds.{kind_of, uses_second}
use Rattle.trail.specs.Trail.{Trail, input_count, line_count, line_at, difference_at}
use Rattle.trail.specs.Changing.{with_difference}
use Rattle.trail.proofs.Changed.{changed_count, line_other, difference_other}
use Rattle.differential.specs.Report.{Report}
use Rattle.trail_reports.specs.Lines.{line_report}
use Rattle.trail_reports.proofs.Demand2.{reports_are_local}
use Rattle.report_buffer.specs.Buffer.{report_size, report_bytes, sheet_bytes, bytes_needed}
use Rattle.report_buffer.proofs.ReportBytes.{length_fields, length_reports}
use Rattle.sheet_indexes.specs.Users.{Names}
use Rattle.sheet_indexes.proofs.Parts.{part_at}
use Rattle.indexed_changes.specs.Renewed.{OtherReportsStay}

module _ (t : Trail) (k d i : ℕ) (other : i ≢ k) (unnamed : Names (line_at t i) (input_count t + k) → ⊥) where
  abbrev since : Trail
  since = with_difference t k d

  same : line_at since i ≡ line_at t i
  same = line_other t k d i other

  pub report_other : line_report since i ≡ line_report t i
  report_other = reports_are_local since i t i (record {
    width = refl;
    kind = ap (λ (l : Line). l.kind) same;
    amount = ap (λ (l : Line). l.amount) same;
    constant = ap (λ (l : Line). l.constant) same;
    difference = ap (λ (l : Line). l.difference) same;
    first =
        ap (λ (l : Line). difference_at since l.first) same
        ∙ difference_other t k d (line_at t i).first (λ e. unnamed (inl e));
    second = λ used.
        ap (λ (l : Line). difference_at since l.second) same
        ∙ difference_other t k d (line_at t i).second
        (λ e. unnamed (inr (subst (λ (l : Line). uses_second (kind_of l.kind) ≡ true) same used, e)));
  })

-- line i's bytes in the report buffer
report_at : (t : Trail) (i q : ℕ) → i < line_count t → q < report_size
    → byte_at (sheet_bytes t) (bytes_needed i + q) ≡ byte_at (report_bytes (line_report t i)) q
unfolding sheet_bytes
report_at t i q l h =
    let r : Report = line_report t i in
    ap (λ (n : ℕ). byte_at (concat (line_count t) (λ x. report_bytes (line_report t x))) (n + q)) (sym (length_reports (line_report t) i))
    ∙ part_at (λ x. report_bytes (line_report t x)) (line_count t) i q 0 l (omega (arith, length_fields r.number r.chains r.weight r.fitting))

pub other_reports_stay : OtherReportsStay
other_reports_stay t k d i l other unnamed =
    let same = report_other t k d i other unnamed in
    record {
      report = same;
      bytes = λ q h.
          report_at (with_difference t k d) i q (omega (arith, changed_count t k d)) h
          ∙ ap (λ (r : Report). byte_at (report_bytes r) q) same
          ∙ sym (report_at t i q l h);
    }
