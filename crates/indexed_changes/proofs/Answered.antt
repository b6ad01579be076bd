-- What the call answers follows from its questions, one after the other.
use Prim.Native.Nat.{ℕ}
use mathlib.Core.Path.{◌≡◌, refl, sym, ap, ◌∙◌}
use mathlib.Core.Bool.{Bool, true, ◌&&◌, cond}
use mathlib.Core.List.{List, ◌++◌}
use borrow.Author.Tests.{ltb-true, lt-ltb, le-ltb}
use Rattle.sheet.specs.Asking.{Question, all_yes, Verdict, verdict}
use Rattle.sheet.specs.Asking.Verdict.{accepted, refused}
use Rattle.sheet.specs.Fields.{header_of, trail_of}
use Rattle.sheet.specs.Questions.{questions, IsAccepted}
use Rattle.sheet.specs.declared.Mode.TheVariants.{Read}
use Rattle.sheet.proofs.Asking.{yes_left, yes_right, yes_first, yes_rest, yes_verdict, no_verdict, go_on, stop, Comes, comes}
use Rattle.sheet.proofs.Asking.Comes.{done, yes, no}
use Rattle.changed_sheets.specs.ChangedSheet.{changed_sheet}
use Rattle.changed_sheets.specs.ChangeCall.{change_questions}
use Rattle.indexed_changes.specs.Renewed.{renewed}
use Rattle.indexed_changes.specs.IndexedCall.{is_own, own_questions, indexed_asks, indexed_call, indexed_sheet}
use Rattle.indexed_changes.specs.Theorem.{own_index, own_report}
use Rattle.indexed_changes.specs.Answered.{IndexedMade, IndexedKept, IndexedAnswersInOrder}
use Rattle.indexed_changes.proofs.Own.{both_own_lem, both_told, one_other}
use Rattle.indexed_changes.proofs.Changed.{right, report_renewed, index_left}

module _ (s index report : List ℕ) (k d : ℕ) where
  -- what is asked after the reading
  abbrev asks : List Question
  asks = own_questions (trail_of s) index report ++ change_questions (header_of s) k d

  -- what the call answers once the sheet passes the reading
  pub after_reading : IsAccepted s → {v : Verdict ℕ} → Comes asks 0 v → (indexed_call s index report k d).answer ≡ v
  unfolding indexed_call
  after_reading accepts told = go_on (questions Read s) asks 0 accepts ∙ sym (comes told)

  made : (n : ℕ) → (indexed_call s index report k d).answer ≡ accepted n → IndexedMade s index report k d n
  unfolding indexed_call indexed_sheet
  made n answered =
      let told = yes_verdict (indexed_asks s index report k d) 0 n answered in
      let accepts = yes_left (questions Read s) asks told.0 in
      let asked = yes_right (questions Read s) asks told.0 in
      let lent = both_told (own_index s) (own_report s) index report (yes_first _ 26 0 _ asked) in
      let then = yes_rest _ 26 0 _ asked in
      let known = ltb-true _ _ (yes_first _ 17 0 _ then) in
      let word = ltb-true _ _ (yes_first _ 14 k _ (yes_rest _ 17 0 _ then)) in
      record {
        lent_own_index = lent.0;
        lent_own_report = lent.1;
        right = right s k d accepts known word;
        count = sym told.1;
        sheet = ap (λ (t : Bool). cond t (changed_sheet s k d) s) told.0;
        report_afresh =
            ap (λ (t : Bool). cond t (renewed (trail_of (changed_sheet s k d)) k report) report) told.0
            ∙ ap (renewed (trail_of (changed_sheet s k d)) k) lent.1
            ∙ report_renewed s k d accepts known word;
        index_afresh = lent.0 ∙ sym (index_left s k d accepts known word);
      }

  kept : (n p : ℕ) → (indexed_call s index report k d).answer ≡ refused n p → IndexedKept s index report k d
  unfolding indexed_call indexed_sheet
  kept n p answered =
      let no-to-one = no_verdict (indexed_asks s index report k d) 0 answered in
      record {
        unchanged = ap (λ (t : Bool). cond t (changed_sheet s k d) s) no-to-one;
        unrenewed = ap (λ (t : Bool). cond t (renewed (trail_of (changed_sheet s k d)) k report) report) no-to-one;
      }

pub indexed_answers_in_order : IndexedAnswersInOrder
unfolding indexed_call
indexed_answers_in_order s index report k d = record {
  by_reading = λ n p e. stop (questions Read s) _ (header_of s) 0 e;
  not_own = λ accepts other. after_reading s index report k d accepts (no (one_other (own_index s) (own_report s) index report other));
  past_the_last = λ accepts e f past. after_reading s index report k d accepts (yes (both e f) (no (le-ltb _ _ past)));
  no_word = λ accepts e f there large.
      after_reading s index report k d accepts (yes (both e f) (yes (lt-ltb _ _ there) (no (le-ltb _ _ large))));
  passes = λ accepts e f there word.
      after_reading s index report k d accepts (yes (both e f) (yes (lt-ltb _ _ there) (yes (lt-ltb _ _ word) done)));
  made = made s index report k d;
  kept = kept s index report k d;
}
  where
    both : index ≡ own_index s → report ≡ own_report s → (is_own (own_index s) index && is_own (own_report s) report) ≡ true
    both = both_own_lem (own_index s) (own_report s) index report
