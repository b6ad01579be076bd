-- What the trial call answers follows from its questions, one after the other.
use Prim.Native.Nat.{ℕ, ◌*◌, ◌≤◌, ◌<◌}
use native.Mathlib.Omega.{arith}
use mathlib.Core.Path.{◌≡◌, sym, ap, ◌∙◌}
use mathlib.Core.Bool.{Bool, cond}
use mathlib.Core.List.{List, ◌++◌, append_assoc}
use borrow.Author.Tests.{lt-ltb, le-ltb, le-leb, lt-leb}
use lib.ListN.{length}
use Rattle.buffers.specs.Overwrite.{overwrite}
use Rattle.trail.specs.Trail.{line_count}
use Rattle.trail.proofs.Changed.{changed_count}
use Rattle.sheet.specs.Asking.{Question, Verdict, verdict}
use Rattle.sheet.specs.Asking.Verdict.{accepted}
use Rattle.sheet.specs.Fields.{header_of, trail_of}
use Rattle.sheet.specs.Questions.{questions, room_questions, IsAccepted}
use Rattle.sheet.specs.declared.Mode.TheVariants.{Read}
use Rattle.sheet.proofs.Asking.{yes_verdict, no_verdict, go_on, stop, Comes, comes}
use Rattle.sheet.proofs.Asking.Comes.{done, yes, no}
use Rattle.sheet.proofs.TrailParts.{trail_lines}
use Rattle.answers.specs.Calls.{writing}
use Rattle.changed_sheets.specs.ChangeCall.{change_questions, change_asks}
use Rattle.trail_reports.specs.Lines.{line_report}
use Rattle.report_buffer.specs.Buffer.{sheet_bytes}
use Rattle.report_buffer.proofs.ReportBytes.{length_reports}
use Rattle.tried_changes.specs.TrialCall.{tried_trail, trial_asks, trial_call}
use Rattle.tried_changes.specs.Answered.{TrialAnswersInOrder}

module _ (s : List ℕ) (k d : ℕ) (out : List ℕ) where
  abbrev bytes : List ℕ
  bytes = sheet_bytes (tried_trail s k d)

  abbrev room : List Question
  room = room_questions (length bytes) (length out)

  -- 16 bytes a line
  pub trial_need : length bytes ≡ 16 * (header_of s).lines
  unfolding sheet_bytes
  trial_need =
      length_reports (line_report (tried_trail s k d)) (line_count (tried_trail s k d))
      ∙ ap (λ (n : ℕ). 16 * n) (changed_count (trail_of s) k d ∙ trail_lines s)

  -- what the call answers once the sheet passes the reading
  own : IsAccepted s → {v : Verdict ℕ} → Comes (change_questions (header_of s) k d ++ room) (length bytes) v → (trial_call s k d out).answer ≡ v
  unfolding writing
  own accepts told =
      ap (λ (qs : List Question). verdict qs (length bytes)) (append_assoc (questions Read s) (change_questions (header_of s) k d) room)
      ∙ go_on (questions Read s) (change_questions (header_of s) k d ++ room) (length bytes) accepts
      ∙ sym (comes told)

pub trial_answers_in_order : TrialAnswersInOrder
unfolding writing
trial_answers_in_order s k d out = record {
  by_reading = λ n p e.
      stop (change_asks s k d) (room s k d out) (header_of s) (length (bytes s k d out))
      (stop (questions Read s) (change_questions (header_of s) k d) (header_of s) (header_of s) e);
  past_the_last = λ accepts past. own s k d out accepts (no (le-ltb _ _ past));
  no_word = λ accepts there large. own s k d out accepts (yes (lt-ltb _ _ there) (no (le-ltb _ _ large)));
  no_room = λ accepts there word short.
      own s k d out accepts (yes (lt-ltb _ _ there) (yes (lt-ltb _ _ word) (no (lt-leb (length (bytes s k d out)) (length out) (omega (arith, trial_need s k d out))))));
  passes = λ accepts there word enough.
      let answer = own s k d out accepts (yes (lt-ltb _ _ there) (yes (lt-ltb _ _ word) (yes (le-leb (length (bytes s k d out)) (length out) (omega (arith, trial_need s k d out))) done))) in
      record {
        count = answer ∙ ap accepted (trial_need s k d out);
        bytes = ap (λ (t : Bool). cond t (overwrite 0 (bytes s k d out) out) out) (yes_verdict (trial_asks s k d out) _ _ answer).0;
      };
  unwritten = λ n p e. ap (λ (t : Bool). cond t (overwrite 0 (bytes s k d out) out) out) (no_verdict (trial_asks s k d out) _ e);
}
