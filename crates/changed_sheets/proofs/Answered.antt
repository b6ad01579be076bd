-- What the change call answers follows from its questions, one after the other.
use Prim.Native.Nat.{ℕ}
use mathlib.Core.Path.{◌≡◌, refl, sym, ap, ◌∙◌}
use mathlib.Core.Bool.{Bool, cond}
use mathlib.Core.List.{List}
use borrow.Author.Tests.{ltb-true, lt-ltb, le-ltb}
use Rattle.sheet.specs.Asking.{Verdict, verdict}
use Rattle.sheet.specs.Asking.Verdict.{accepted}
use Rattle.sheet.specs.Fields.{header_of}
use Rattle.sheet.specs.Questions.{questions, IsAccepted}
use Rattle.sheet.specs.declared.Mode.TheVariants.{Read}
use Rattle.sheet.proofs.Asking.{yes_left, yes_right, yes_first, yes_rest, yes_verdict, no_verdict, go_on, stop, Comes, comes}
use Rattle.sheet.proofs.Asking.Comes.{done, yes, no}
use Rattle.changed_sheets.specs.ChangedSheet.{changed_sheet}
use Rattle.changed_sheets.specs.ChangeCall.{change_questions, change_asks, change_call}
use Rattle.changed_sheets.specs.Answered.{ChangeMade, ChangeAnswersInOrder}
use Rattle.changed_sheets.proofs.Changed.{changed_sheets_are_right}

module _ (s : List ℕ) (k d : ℕ) where
  -- what the call answers once the sheet passes the reading
  own : IsAccepted s → {v : Verdict ℕ} → Comes (change_questions (header_of s) k d) 0 v → (change_call s k d).answer ≡ v
  unfolding change_call
  own accepts told = go_on (questions Read s) (change_questions (header_of s) k d) 0 accepts ∙ sym (comes told)

  made : (n : ℕ) → (change_call s k d).answer ≡ accepted n → ChangeMade s k d n
  unfolding change_call
  made n answered =
      let told = yes_verdict (change_asks s k d) 0 n answered in
      let asked = yes_right (questions Read s) (change_questions (header_of s) k d) told.0 in
      record {
        right =
            changed_sheets_are_right s k d (yes_left (questions Read s) _ told.0) (ltb-true _ _ (yes_first _ 17 0 _ asked))
            (ltb-true _ _ (yes_first _ 14 k _ (yes_rest _ 17 0 _ asked)));
        count = sym told.1;
        sheet = ap (λ (t : Bool). cond t (changed_sheet s k d) s) told.0;
      }

pub change_answers_in_order : ChangeAnswersInOrder
unfolding change_call
change_answers_in_order s k d = record {
  by_reading = λ n p e. stop (questions Read s) (change_questions (header_of s) k d) (header_of s) 0 e;
  past_the_last = λ accepts past. own s k d accepts (no (le-ltb _ _ past));
  no_word = λ accepts there large. own s k d accepts (yes (lt-ltb _ _ there) (no (le-ltb _ _ large)));
  passes = λ accepts there word. own s k d accepts (yes (lt-ltb _ _ there) (yes (lt-ltb _ _ word) done));
  made = made s k d;
  kept = λ n p e. ap (λ (t : Bool). cond t (changed_sheet s k d) s) (no_verdict (change_asks s k d) 0 e);
}
