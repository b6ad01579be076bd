-- What the change call comes to on a sheet that was read, from what the stage that asks 17 and 14 answered.
use Prim.Native.Nat.{ℕ, ◌^◌, ◌<◌}
use mathlib.Core.Path.{◌≡◌, sym, ap, subst, ◌∙◌}
use mathlib.Core.Bool.{Bool, true, cond}
use mathlib.Core.List.{List, [], append-nil}
use borrow.Author.Tests.{ltb-true}
use Rattle.sheet.specs.Asking.{Question, all_yes, Verdict, verdict}
use Rattle.sheet.specs.Asking.Verdict.{accepted, refused}
use Rattle.sheet.specs.Fields.{header_of}
use Rattle.sheet.specs.Facts.{SheetRead}
use Rattle.sheet.specs.Questions.{questions}
use Rattle.sheet.specs.declared.Header.{Header}
use Rattle.sheet.specs.declared.Mode.TheVariants.{Read}
use Rattle.sheet.proofs.Asking.{yes_right, yes_first, yes_rest, yes_verdict, verdict_yes, no_verdict, go_on}
use Rattle.answers.proofs.Calling.{refuses_too}
use Rattle.changed_sheets.specs.ChangedSheet.{changed_sheet}
use Rattle.changed_sheets.specs.ChangeCall.{change_questions, change_asks, change_call}

-- what reading and the stage after it settle where both accept: h are the sheet's parts
pub record Passed (s : List ℕ) (k d : ℕ) (h : Header) : Type 0 where
  pub read : SheetRead s h
  pub known : k < h.lines
  pub word : d < 2 ^ h.width
  pub yes_to_all : all_yes (change_asks s k d) ≡ true

module _ {s : List ℕ} {h : Header} (read : SheetRead s h) (k d : ℕ) where
  -- 17 and 14 are asked with the parts that reading gave
  pub own_asked : {v : Verdict Header} → v ≡ verdict (change_questions h k d) h → v ≡ verdict (change_asks s k d) (header_of s)
  own_asked {v} asks =
      subst (λ (p : Header). v ≡ verdict (change_questions p k d) p) (sym read.parts) asks
      ∙ sym (go_on (questions Read s) (change_questions (header_of s) k d) (header_of s) read.accepted)

  -- with yes to all
  pub all_passed : {g : Header} → accepted g ≡ verdict (change_questions h k d) h → Passed s k d h
  all_passed {g} asks =
      let all = (yes_verdict (change_asks s k d) (header_of s) g (sym (own_asked asks))).0 in
      let own = yes_right (questions Read s) (change_questions (header_of s) k d) all in
      record {
        read = read;
        known = subst (λ (p : Header). k < p.lines) read.parts (ltb-true _ _ (yes_first _ 17 0 _ own));
        word = subst (λ (p : Header). d < 2 ^ p.width) read.parts (ltb-true _ _ (yes_first _ 14 k _ (yes_rest _ 17 0 _ own)));
        yes_to_all = all;
      }

-- refused, by whichever stage
pub change_refused : (s : List ℕ) (k d : ℕ) {n p : ℕ} → refused n p ≡ verdict (change_asks s k d) (header_of s)
    → (refused n p ≡ (change_call s k d).answer) × (s ≡ (change_call s k d).buffer)
unfolding change_call
change_refused s k d told =
    let answer = refuses_too (change_asks s k d) [] (header_of s) 0 told ∙ ap (λ (qs : List Question). verdict qs 0) (append-nil (change_asks s k d)) in
    (answer, sym (ap (λ (t : Bool). cond t (changed_sheet s k d) s) (no_verdict (change_asks s k d) 0 (sym answer))))

-- made
pub change_made : {s : List ℕ} {k d : ℕ} {h : Header} → Passed s k d h → {after : List ℕ} → after ≡ changed_sheet s k d
    → (accepted 0 ≡ (change_call s k d).answer) × (after ≡ (change_call s k d).buffer)
unfolding change_call
change_made {s} {k} {d} p e =
    (sym (verdict_yes (change_asks s k d) 0 p.yes_to_all), e ∙ sym (ap (λ (t : Bool). cond t (changed_sheet s k d) s) p.yes_to_all))
