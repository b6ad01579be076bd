-- The trial's answer and bytes are those of changing a copy and reporting on it: where the change is made, the copy is an accepted
-- sheet whose trail is the one tried; where it is refused, both refuse so and write nothing.
use Prim.Native.Nat.{ℕ, ◌^◌, ◌<◌}
use native.Mathlib.Omega.{arith}
use mathlib.Core.Path.{◌≡◌, refl, sym, ap, ◌∙◌}
use mathlib.Core.Bool.{Bool, true, cond}
use mathlib.Core.List.{List}
use borrow.Author.Tests.{lt-ltb}
use lib.ListN.{length}
use Rattle.buffers.specs.Overwrite.{overwrite}
use Rattle.trail.specs.Trail.{Trail, line_count, line_at}
use Rattle.trail.proofs.Changed.{same_again}
use Rattle.sheet.specs.Asking.{Question, all_yes, Verdict, verdict}
use Rattle.sheet.specs.Asking.Verdict.{accepted, refused}
use Rattle.sheet.specs.Fields.{header_of, trail_of}
use Rattle.sheet.specs.Questions.{questions, line_number_questions, room_questions}
use Rattle.sheet.specs.Questions.{IsAccepted}
use Rattle.sheet.specs.declared.Mode.TheVariants.{Read}
use Rattle.sheet.proofs.Asking.{yes_both, yes_one, yes_verdict, no_verdict, stop}
use Rattle.sheet.proofs.TrailParts.{trail_lines}
use Rattle.sheet.proofs.WellFormed.{accepted_well_formed}
use Rattle.answers.specs.Calls.{Call, writing}
use Rattle.answers.proofs.Calling.{after_yes}
use Rattle.changed_sheets.specs.ChangedSheet.{changed_sheet}
use Rattle.changed_sheets.specs.ChangeCall.{new_difference_questions, change_questions, change_asks, change_call}
use Rattle.changed_sheets.proofs.Answered.{change_answers_in_order}
use Rattle.report_buffer.specs.Buffer.{sheet_bytes}
use Rattle.report.specs.Answers.{reports_call}
use Rattle.tried_changes.specs.TrialCall.{tried_trail, trial_asks, trial_call}
use Rattle.tried_changes.specs.Theorem.{reporting_on, changing_acopy, TrialIsChangingACopy, TrialOfTheSame}

-- writing that is refused
refused_so : (asks : List Question) (values out : List ℕ) {n p : ℕ} → verdict asks (length values) ≡ refused n p
    → writing asks values out ≡ record { answer = refused n p; buffer = out }
unfolding writing
refused_so asks values out e =
    let no = ap (λ (t : Bool). cond t (overwrite 0 values out) out) (no_verdict asks (length values) e) in
    λ i. record { answer = e i; buffer = no i }

module _ (s : List ℕ) (k d : ℕ) (out : List ℕ) where
  -- a trail's reports, once all but the room is asked
  abbrev reports : Trail → Call ℕ
  reports t = writing (room_questions (length (sheet_bytes t)) (length out)) (sheet_bytes t) out

  asked : {n : ℕ} → (change_call s k d).answer ≡ accepted n → all_yes (change_asks s k d) ≡ true
  unfolding change_call
  asked {n} e = (yes_verdict (change_asks s k d) 0 n e).0

  changed : {n : ℕ} → (change_call s k d).answer ≡ accepted n → trial_call s k d out ≡ reports_call (change_call s k d).buffer out
  changed {n} answered =
      let did = (change_answers_in_order s k d).made n answered in
      after_yes (change_asks s k d) _ (sheet_bytes (tried_trail s k d)) out (asked answered)
      ∙ ap reports (sym did.right.trail)
      ∙ sym (after_yes (questions Read (changed_sheet s k d)) _ (sheet_bytes (trail_of (changed_sheet s k d))) out did.right.accepted)
      ∙ ap (λ (copy : List ℕ). reports_call copy out) (sym did.sheet)

  unchanged : {n p : ℕ} → (change_call s k d).answer ≡ refused n p → trial_call s k d out ≡ record { answer = refused n p; buffer = out }
  unfolding change_call
  unchanged answered =
      refused_so (trial_asks s k d out) (sheet_bytes (tried_trail s k d)) out (stop (change_asks s k d) _ 0 _ answered)

  at : (v : Verdict ℕ) → (change_call s k d).answer ≡ v → trial_call s k d out ≡ reporting_on v (change_call s k d).buffer out
  at (accepted n) e = changed e
  at (refused n p) e = unchanged e

-- a line and a word pass
passes : (s : List ℕ) (k d : ℕ) → IsAccepted s → k < (header_of s).lines → d < 2 ^ (trail_of s).width → all_yes (change_asks s k d) ≡ true
unfolding trail_of
passes s k d accepts known word =
    yes_both (questions Read s) (change_questions (header_of s) k d) accepts
    (yes_both (line_number_questions (header_of s) k) (new_difference_questions (header_of s) k d) (yes_one _ 17 0 (lt-ltb k (header_of s).lines known))
    (yes_one _ 14 k (lt-ltb d (2 ^ (header_of s).width) word)))

pub trial_is_changing_a_copy : TrialIsChangingACopy
trial_is_changing_a_copy s k d out = at s k d out (change_call s k d).answer refl

pub trial_of_the_same : TrialOfTheSame
trial_of_the_same s k out accepts known =
    let d = (line_at (trail_of s) k).difference in
    let there : k < line_count (trail_of s) = omega (arith, trail_lines s) in
    let word = ((accepted_well_formed Read s accepts).lines_right k there).difference_word in
    after_yes (change_asks s k d) _ (sheet_bytes (tried_trail s k d)) out (passes s k d accepts known word)
    ∙ ap (reports s k d out) (same_again (trail_of s) k)
    ∙ sym (after_yes (questions Read s) _ (sheet_bytes (trail_of s)) out accepts)
