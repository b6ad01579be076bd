-- What the calls answer, from what reading answered and what the stage that asks 17 and 14 did.
use Prim.Native.Nat.{ℕ, ◌*◌, ◌<◌, ◌≤◌}
use native.Mathlib.Omega.{arith}
use mathlib.Core.Path.{◌≡◌, sym, ap, ◌∙◌}
use mathlib.Core.List.{List}
use borrow.Author.Tests.{le-leb, lt-leb}
use lib.ListN.{length}
use Rattle.sheet.specs.Asking.{verdict}
use Rattle.sheet.specs.Asking.Verdict.{accepted, refused}
use Rattle.sheet.specs.Fields.{header_of}
use Rattle.sheet.specs.Questions.{questions}
use Rattle.sheet.specs.declared.Header.{Header}
use Rattle.sheet.specs.declared.Mode.TheVariants.{Read}
use Rattle.sheet.proofs.Asking.{go_on, comes}
use Rattle.sheet.proofs.Asking.Comes.{done, yes, no}
use Rattle.std.specs.Prelude.{Result, IsErrAnd}
use Rattle.answers.specs.Answers.{number_of, place_of}
use Rattle.answers.specs.declared.Refusal.{Refusal}
use Rattle.answers.proofs.Calling.{same_refusal, refuses_too}
use Rattle.changed_sheets.specs.ChangeCall.{change_questions, change_asks, change_call}
use Rattle.changed_sheets.proofs.Stage.{Passed, change_refused}
use Rattle.report_buffer.specs.Buffer.{sheet_bytes}
use Rattle.tried_changes.specs.TrialCall.{tried_trail, trial_asks}
use Rattle.tried_changes.proofs.Answered.{trial_need}
use Rattle.changing.specs.Answers.{change_means}

module _ (s : List ℕ) (k d : ℕ) where
  -- what reading refused, and
  pub unread : {n p : ℕ} → refused n p ≡ verdict (questions Read s) (header_of s) → refused n p ≡ verdict (change_asks s k d) (header_of s)
  unread told = refuses_too (questions Read s) (change_questions (header_of s) k d) (header_of s) (header_of s) told

  -- what a trial is refused for, by whichever stage
  pub trial_refused : (out : List ℕ) {n p : ℕ} → refused n p ≡ verdict (change_asks s k d) (header_of s)
      → refused n p ≡ verdict (trial_asks s k d out) (length (sheet_bytes (tried_trail s k d)))
  trial_refused out told = refuses_too (change_asks s k d) _ (header_of s) _ told

  -- a change refused, and the refusal handed on
  pub change_kept : (x : Result (Unit {0}) Refusal) (e : Refusal) → IsErrAnd x (λ w. w ≡ e)
      → refused (number_of e) (place_of e) ≡ verdict (change_asks s k d) (header_of s)
      → (change_means x ≡ (change_call s k d).answer) × (s ≡ (change_call s k d).buffer)
  change_kept x e is told = let k = change_refused s k d told in (same_refusal (λ _. 0) x e is ∙ k.0, k.1)

-- ---- the room for a trial

module _ {s : List ℕ} {k d : ℕ} {h : Header} (p : Passed s k d h) (out : List ℕ) where
  abbrev need : ℕ
  need = length (sheet_bytes (tried_trail s k d))

  needed : need ≡ 16 * h.lines
  needed = trial_need s k d out ∙ ap (λ (g : Header). 16 * g.lines) p.read.parts

  -- 18, for this very answer
  pub room_refused : length out < 16 * h.lines → refused 18 0 ≡ verdict (trial_asks s k d out) need
  room_refused short =
      comes (no (lt-leb need (length out) (omega (arith, needed)))) ∙ sym (go_on (change_asks s k d) _ need p.yes_to_all)

  pub room_enough : 16 * h.lines ≤ length out → accepted need ≡ verdict (trial_asks s k d out) need
  room_enough enough =
      comes (yes (le-leb need (length out) (omega (arith, needed))) done) ∙ sym (go_on (change_asks s k d) _ need p.yes_to_all)
