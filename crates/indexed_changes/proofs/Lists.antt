-- Lent the sheet's own, a call is a change call, and what was lent is the sheet's own again; so it is after any list of calls.
use Prim.Native.Nat.{ℕ}
use mathlib.Core.Path.{◌≡◌, refl, sym, ap, subst, ◌∙◌}
use mathlib.Core.Bool.{Bool, true, false, ◌&&◌, cond}
use mathlib.Core.List.{List, [], ◌∷◌, ◌++◌}
use borrow.Author.Tests.{ltb-true}
use Rattle.sheet.specs.Asking.{Question, all_yes, Verdict, verdict}
use Rattle.sheet.specs.Asking.Verdict.{refused}
use Rattle.sheet.specs.Fields.{header_of, trail_of}
use Rattle.sheet.specs.Questions.{questions}
use Rattle.sheet.specs.declared.Mode.TheVariants.{Read}
use Rattle.sheet.proofs.Asking.{yes_left, yes_right, yes_first, yes_rest, yes_append}
use Rattle.answers.proofs.Calling.{values_taken}
use Rattle.sheet_indexes.specs.IndexCall.{index_asks}
use Rattle.changed_sheets.specs.ChangedSheet.{changed_sheet}
use Rattle.changed_sheets.specs.ChangeCall.{change_questions, change_asks, change_call}
use Rattle.change_lists.specs.Pairs.{Pair}
use Rattle.change_lists.specs.Applied.{change_of, sheet_after}
use Rattle.indexed_changes.specs.Renewed.{renewed}
use Rattle.indexed_changes.specs.IndexedCall.{is_own, own_questions, indexed_asks, indexed_call, indexed_sheet}
use Rattle.indexed_changes.specs.Theorem.{own_index, own_report, OwnIsMadeByCalls, OwnStaysOwn, Lent, own, after_call, after_calls, OwnAfter, ListsStayOwn}
use Rattle.indexed_changes.proofs.Own.{both_own_lem}
use Rattle.indexed_changes.proofs.Changed.{report_renewed, index_left}

-- what the calls write
pub own_is_made_by_calls : OwnIsMadeByCalls
own_is_made_by_calls s out = record {
  index = λ n answered. values_taken (index_asks s out) (own_index s) out answered;
  report = λ n answered. values_taken _ (own_report s) out answered;
}

-- a question whose answer is yes may be left out
module _ (t : Bool) (yes-here : t ≡ true) (n p : ℕ) (ys : List Question) where
  abbrev one : List Question
  one = record { answer = t; number = n; place = p } ∷ ys

  left_out : {A : Type 0} (a : A) (xs : List Question) → verdict (xs ++ one) a ≡ verdict (xs ++ ys) a
  unfolding verdict
  left_out a [] = ap (λ (b : Bool). cond b (verdict ys a) (refused n p)) yes-here
  left_out {A} a (q ∷ xs) = ap (λ (v : Verdict A). cond q.answer v (refused q.number q.place)) (left_out a xs)

  same_yes : (xs : List Question) → all_yes (xs ++ one) ≡ all_yes (xs ++ ys)
  unfolding all_yes
  same_yes [] = ap (λ (b : Bool). b && all_yes ys) yes-here
  same_yes (q ∷ xs) = ap (λ (b : Bool). q.answer && b) (same_yes xs)

-- ---- one call

module _ (s : List ℕ) (k d : ℕ) where
  lent : (is_own (own_index s) (own_index s) && is_own (own_report s) (own_report s)) ≡ true
  lent = both_own_lem (own_index s) (own_report s) (own_index s) (own_report s) refl refl

  same : all_yes (indexed_asks s (own_index s) (own_report s) k d) ≡ all_yes (change_asks s k d)
  same = same_yes _ lent 26 0 (change_questions (header_of s) k d) (questions Read s)

  answer : (indexed_call s (own_index s) (own_report s) k d).answer ≡ (change_call s k d).answer
  unfolding indexed_call change_call
  answer = left_out _ lent 26 0 (change_questions (header_of s) k d) 0 (questions Read s)

  sheet : indexed_sheet s (own_index s) (own_report s) k d ≡ (change_call s k d).buffer
  unfolding indexed_sheet change_call
  sheet = ap (λ (t : Bool). cond t (changed_sheet s k d) s) same

  -- what holds of the sheet and, where all is answered with yes, of the changed one, holds of the sheet afterwards
  module _ (yes_to_all : all_yes (change_asks s k d) ≡ true) where
    asked : all_yes (change_questions (header_of s) k d) ≡ true
    asked = yes_right (questions Read s) (change_questions (header_of s) k d) yes_to_all

    changed_report : renewed (trail_of (changed_sheet s k d)) k (own_report s) ≡ own_report (changed_sheet s k d)
    changed_report =
        report_renewed s k d (yes_left (questions Read s) _ yes_to_all) (ltb-true _ _ (yes_first _ 17 0 _ asked))
        (ltb-true _ _ (yes_first _ 14 k _ (yes_rest _ 17 0 _ asked)))

    changed_index : own_index (changed_sheet s k d) ≡ own_index s
    changed_index =
        index_left s k d (yes_left (questions Read s) _ yes_to_all) (ltb-true _ _ (yes_first _ 17 0 _ asked))
        (ltb-true _ _ (yes_first _ 14 k _ (yes_rest _ 17 0 _ asked)))

  report : (indexed_call s (own_index s) (own_report s) k d).buffer ≡ own_report (change_call s k d).buffer
  unfolding indexed_call change_call
  report =
      ap (λ (t : Bool). cond t (renewed (trail_of (changed_sheet s k d)) k (own_report s)) (own_report s)) same
      ∙ at (all_yes (change_asks s k d)) refl
    where
      at : (t : Bool) → all_yes (change_asks s k d) ≡ t
          → cond t (renewed (trail_of (changed_sheet s k d)) k (own_report s)) (own_report s) ≡ own_report (cond t (changed_sheet s k d) s)
      at true all = changed_report all
      at false none = refl

  index : own_index (change_call s k d).buffer ≡ own_index s
  unfolding change_call
  index = at (all_yes (change_asks s k d)) refl
    where
      at : (t : Bool) → all_yes (change_asks s k d) ≡ t → own_index (cond t (changed_sheet s k d) s) ≡ own_index s
      at true all = changed_index all
      at false none = refl

pub own_stays_own : OwnStaysOwn
own_stays_own s k d = record { answer = answer s k d; sheet = sheet s k d; report = report s k d; index = index s k d }

-- ---- a list of calls

-- of what was lent, and the list that is still to come, for a sheet s that the change calls have come to
record Still (x : List ℕ) (s : List ℕ) (l : Lent) (ps : List Pair) : Type 0 where
  still_index : x ≡ own_index (after_calls x l ps).sheet
  still_report : (after_calls x l ps).report ≡ own_report (after_calls x l ps).sheet
  still_sheet : (after_calls x l ps).sheet ≡ sheet_after s ps

still : (x s : List ℕ) (ps : List Pair) → x ≡ own_index s → Still x s (own s) ps
unfolding after_calls sheet_after
still x s [] e = record { still_index = e; still_report = refl; still_sheet = refl }
still x s (p ∷ ps) e =
    let since = (change_of s p).buffer in
    let told = own_stays_own s p.line p.difference in
    let sheets = ap (λ (y : List ℕ). indexed_sheet s y (own_report s) p.line p.difference) e ∙ told.sheet in
    let reports = ap (λ (y : List ℕ). (indexed_call s y (own_report s) p.line p.difference).buffer) e ∙ told.report in
    let step : after_call x (own s) p ≡ own since = λ i. record { sheet = sheets i; report = reports i } in
    let rest = subst (λ (l : Lent). Still x since l ps) (sym step) (still x since ps (e ∙ sym told.index)) in
    record { still_index = rest.still_index; still_report = rest.still_report; still_sheet = rest.still_sheet }

pub lists_stay_own : ListsStayOwn
lists_stay_own s ps =
    let all = still (own_index s) s ps refl in
    record { index = all.still_index; report = all.still_report; sheet = all.still_sheet }
