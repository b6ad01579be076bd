-- The three demands hold: the first by the laws of verdicts, the others by their own theorems.
use Prim.Native.Nat.{ℕ}
use native.Mathlib.Omega.{arith}
use mathlib.Core.Path.{◌≡◌, refl, ap, ◌∙◌}
use mathlib.Core.Bool.{Bool, true, false, cond, and-eq-true_iff}
use mathlib.Core.List.{List, [], ◌∷◌}
use Rattle.buffers.specs.Overwrite.{overwrite}
use Rattle.sheet.specs.Asking.{Question, all_yes, verdict}
use Rattle.sheet.specs.Asking.Verdict.{accepted, refused}
use Rattle.sheet.specs.Fields.{header_of}
use Rattle.sheet.specs.Questions.{questions}
use Rattle.sheet.specs.declared.Mode.TheVariants.{Seal}
use Rattle.sheet.proofs.Asking.{verdict_yes, yes_verdict, no_verdict, go_on}
use Rattle.sheet.proofs.LineAsking.{reading_asks, sealing_asks}
use Rattle.answers.specs.Calls.{writing}
use Rattle.sealed_sheets.proofs.WrittenChecks.{sealed_no}
use Rattle.sealed_sheets.proofs.Demand2.{sealing_is_right}
use Rattle.changed_sheets.proofs.Answered.{change_answers_in_order}
use Rattle.change_lists.proofs.Answered.{changes_answer_in_order}
use Rattle.indexed_changes.proofs.Answered.{indexed_answers_in_order}
use Rattle.trail_reports.proofs.Demand2.{sheet_reports_are_right}
use Rattle.clauses.proofs.Demand3.{every_sheet_pairs}
use Rattle.demands.specs.Demands.{FirstNo, Demands}
use Rattle.demands.proofs.Calls.{calls_answer}

no_questions : all_yes [] ≡ true
unfolding all_yes
no_questions = refl

cons_yes : (q : Question) (qs : List Question) → q.answer ≡ true → all_yes qs ≡ true → all_yes (q ∷ qs) ≡ true
unfolding all_yes
cons_yes q qs e d = (and-eq-true_iff q.answer (all_yes qs)).1 (e, d)

-- a refusal leaves the buffer
unwritten : {A : Type 0} (asks : List Question) (values out : List A) (number place : ℕ)
    → (writing asks values out).answer ≡ refused number place → (writing asks values out).buffer ≡ out
unfolding writing
unwritten asks values out number place e = ap (λ (t : Bool). cond t (overwrite 0 values out) out) (no_verdict asks _ e)

module _ {A : Type 0} where
  first_no : (qs : List Question) (a : A) {number place : ℕ} → verdict qs a ≡ refused number place → FirstNo qs number place
  unfolding verdict
  first_no [] a e = let z : ◌≡◌ {A = ℕ} 0 1 = cc in absurd (omega arith)
  first_no (q ∷ qs) a {number} {place} e = at q.answer refl (first_no qs a) e
    where
      at : (t : Bool) → q.answer ≡ t → (verdict qs a ≡ refused number place → FirstNo qs number place)
          → cond t (verdict qs a) (refused q.number q.place) ≡ refused number place → FirstNo (q ∷ qs) number place
      at true said later d =
          let next = later d in
          record {
            before = q ∷ next.before;
            after = next.after;
            all_yes_before = cons_yes q next.before said next.all_yes_before;
            then_no = ap (λ (l : List Question). q ∷ l) next.then_no;
          }
      at false said later d =
          let number_is : q.number ≡ number = cc in
          let place_is : q.place ≡ place = cc in
          record {
            before = [];
            after = qs;
            all_yes_before = no_questions;
            then_no = ap (λ (r : Question). r ∷ qs) (λ i. record { answer = said i; number = number_is i; place = place_is i });
          }

  is_first : (qs : List Question) (a : A) {number place : ℕ} → FirstNo qs number place → verdict qs a ≡ refused number place
  unfolding verdict
  is_first qs a f = ap (λ (l : List Question). verdict l a) f.then_no ∙ go_on f.before _ a f.all_yes_before

pub demands : Demands
demands = record {
  first = record {
    reading_asks = reading_asks;
    sealing_asks = sealing_asks;
    accepted_exactly = λ qs a b. (yes_verdict qs a b, λ yes. verdict_yes qs a yes.0 ∙ ap accepted yes.1);
    refused_exactly = λ qs a number place. (first_no qs a, is_first qs a);
    refused_unwritten = unwritten;
    calls = calls_answer;
    refused_unsealed = λ s number place e. sealed_no s (no_verdict (questions Seal s) (header_of s) e);
    refused_unchanged = λ s k d number place e. (change_answers_in_order s k d).kept number place e;
    refused_unapplied = λ s numbers out number place e. ((changes_answer_in_order s numbers out).kept number place e).unapplied;
    refused_unrenewed = λ s index report k d number place e.
        let left = (indexed_answers_in_order s index report k d).kept number place e in (left.unchanged, left.unrenewed);
  };
  second = record { reports = sheet_reports_are_right; sealing = sealing_is_right };
  third = every_sheet_pairs;
}
