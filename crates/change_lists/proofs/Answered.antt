-- What the call for a list of changes answers follows from its questions, one after the other.
use Prim.Native.Nat.{ℕ, ◌≤◌}
use native.Mathlib.Omega.{arith}
use mathlib.Core.Path.{◌≡◌, refl, sym, ap, subst, ◌∙◌}
use mathlib.Core.Bool.{Bool, true, false, cond}
use mathlib.Core.List.{List, [], ◌∷◌}
use borrow.Author.Tests.{leb-true, le-leb, lt-leb}
use lib.ListN.{length}
use Rattle.buffers.specs.Overwrite.{overwrite}
use Rattle.buffers.specs.LittleEndian.{byte_at}
use Rattle.buffers.proofs.Overwrite.{get_or_overwrite_inside}
use Rattle.sheet.specs.Asking.{all_yes, Verdict, verdict}
use Rattle.sheet.specs.Asking.Verdict.{accepted, refused}
use Rattle.sheet.specs.Fields.{header_of}
use Rattle.sheet.specs.Questions.{questions, IsAccepted}
use Rattle.sheet.specs.declared.Mode.TheVariants.{Read}
use Rattle.sheet.proofs.Asking.{yes_left, yes_right, yes_first, yes_rest, yes_verdict, no_verdict, go_on, stop, Comes, comes, refuses}
use Rattle.sheet.proofs.Asking.Comes.{done, yes, no}
use Rattle.answers.specs.Calls.{writing}
use Rattle.answers.proofs.Calling.{values_taken, rest_kept}
use Rattle.changed_sheets.specs.ChangeCall.{change_call}
use Rattle.changed_sheets.proofs.Answered.{change_answers_in_order}
use Rattle.change_lists.specs.Pairs.{Pair, pairs_of}
use Rattle.change_lists.specs.Applied.{sheet_after, reply_of, replies_to}
use Rattle.change_lists.specs.ChangesCall.{list_questions, changes_asks, changes_call, changes_sheet}
use Rattle.change_lists.specs.Answered.{ChangesMade, ChangesKept, ChangesAnswerInOrder, OnePairIsAChange}
use Rattle.change_lists.proofs.Pairs.{pairs_count}
use Rattle.change_lists.proofs.Lists.{replies_count, lists_are_right}

module _ (s numbers out : List ℕ) where
  abbrev ps : List Pair
  ps = pairs_of numbers

  -- what the call answers once the sheet passes the reading
  own : IsAccepted s → {v : Verdict ℕ} → Comes (list_questions ps out) (length (replies_to s ps)) v → (changes_call s numbers out).answer ≡ v
  unfolding writing
  own accepts told = go_on (questions Read s) (list_questions ps out) (length (replies_to s ps)) accepts ∙ sym (comes told)

  made : (n : ℕ) → (changes_call s numbers out).answer ≡ accepted n → ChangesMade s numbers out n
  unfolding writing changes_sheet
  made n answered =
      let told = yes_verdict (changes_asks s numbers out) (length (replies_to s ps)) n answered in
      let asked = yes_right (questions Read s) (list_questions ps out) told.0 in
      let room = leb-true (length ps) (length out) (yes_first _ 25 0 _ (yes_rest _ 24 0 _ asked)) in
      let applied = ap (λ (t : Bool). cond t (sheet_after s ps) s) told.0 in
      let counted = sym told.1 ∙ replies_count s ps in
      record {
        pairs = counted;
        numbers_halved = counted ∙ pairs_count numbers;
        read_again = subst IsAccepted (sym applied) (lists_are_right s ps (yes_left (questions Read s) _ told.0)).accepted;
        sheet = applied;
        replies = values_taken (changes_asks s numbers out) (replies_to s ps) out answered;
        rest = rest_kept (changes_asks s numbers out) (replies_to s ps) out answered (omega (arith, room, replies_count s ps));
      }

  kept : (n p : ℕ) → (changes_call s numbers out).answer ≡ refused n p → ChangesKept s numbers out
  unfolding writing changes_sheet
  kept n p answered =
      let no-to-one = no_verdict (changes_asks s numbers out) (length (replies_to s ps)) answered in
      record {
        unapplied = ap (λ (t : Bool). cond t (sheet_after s ps) s) no-to-one;
        unwritten = ap (λ (t : Bool). cond t (overwrite 0 (replies_to s ps) out) out) no-to-one;
      }

pub changes_answer_in_order : ChangesAnswerInOrder
unfolding writing
changes_answer_in_order s numbers out = record {
  by_reading = λ n p e. stop (questions Read s) (list_questions (pairs_of numbers) out) (header_of s) _ e;
  too_many = λ accepts many. own s numbers out accepts (no (lt-leb _ 64 many));
  too_short = λ accepts few short. own s numbers out accepts (yes (le-leb _ 64 few) (no (lt-leb _ _ short)));
  passes = λ accepts few enough.
      own s numbers out accepts (yes (le-leb _ 64 few) (yes (le-leb _ _ enough) done)) ∙ ap accepted (replies_count s (pairs_of numbers));
  made = made s numbers out;
  kept = kept s numbers out;
}

-- ---- a list of one pair

module _ (s : List ℕ) (k d : ℕ) (out : List ℕ) (room : 1 ≤ length out) where
  abbrev numbers : List ℕ
  numbers = k ∷ (d ∷ [])

  passed : IsAccepted s → (changes_call s numbers out).answer ≡ accepted 1
  unfolding pairs_of
  passed accepts = (changes_answer_in_order s numbers out).passes accepts (omega arith) room

  sheet : (t : Bool) → all_yes (questions Read s) ≡ t → changes_sheet s numbers out ≡ (change_call s k d).buffer
  unfolding pairs_of sheet_after
  sheet true e = (made s numbers out 1 (passed e)).sheet
  sheet false e =
      let r = refuses (questions Read s) (header_of s) e in
      let all = changes_answer_in_order s numbers out in
      let one = change_answers_in_order s k d in
      (all.kept _ _ (all.by_reading _ _ r.says)).unapplied ∙ sym (one.kept _ _ (one.by_reading _ _ r.says))

  reply : IsAccepted s → byte_at (changes_call s numbers out).buffer 0 ≡ reply_of (change_call s k d).answer
  unfolding writing pairs_of replies_to
  reply accepts =
      let replies = replies_to s (pairs_of numbers) in
      ap (λ (t : Bool). byte_at (cond t (overwrite 0 replies out) out) 0) (yes_verdict (changes_asks s numbers out) (length replies) 1 (passed accepts)).0
      ∙ get_or_overwrite_inside 0 replies out room 0 0 (omega arith)

pub one_pair_is_a_change : OnePairIsAChange
one_pair_is_a_change s k d out room = record {
  sheet = sheet s k d out room (all_yes (questions Read s)) refl;
  reply = reply s k d out room;
  unread = λ n p e.
      (changes_answer_in_order s (k ∷ (d ∷ [])) out).by_reading n p e ∙ sym ((change_answers_in_order s k d).by_reading n p e);
}
