-- What the call for the index answers follows from its questions, one after the other.
use Prim.Native.Nat.{ℕ}
use native.Mathlib.Omega.{arith}
use mathlib.Core.Path.{◌≡◌, sym, ap, ◌∙◌}
use mathlib.Core.Bool.{Bool, cond}
use mathlib.Core.List.{List}
use borrow.Author.Tests.{leb-true, le-leb, lt-leb}
use lib.ListN.{length}
use Rattle.buffers.specs.Overwrite.{overwrite}
use Rattle.sheet.specs.Asking.{Verdict}
use Rattle.sheet.specs.Asking.Verdict.{accepted}
use Rattle.sheet.specs.Fields.{header_of, trail_of}
use Rattle.sheet.specs.Questions.{questions, room_questions, IsAccepted}
use Rattle.sheet.specs.declared.Mode.TheVariants.{Read}
use Rattle.sheet.proofs.Asking.{yes_right, yes_first, yes_verdict, no_verdict, go_on, stop, Comes, comes}
use Rattle.sheet.proofs.Asking.Comes.{done, yes, no}
use Rattle.answers.specs.Calls.{writing}
use Rattle.answers.proofs.Calling.{values_taken, rest_kept}
use Rattle.sheet_indexes.specs.Index.{index_of}
use Rattle.sheet_indexes.specs.IndexCall.{index_asks, index_call}
use Rattle.sheet_indexes.specs.Answered.{IndexMade, IndexAnswersInOrder}

module _ (s out : List ℕ) where
  abbrev index : List ℕ
  index = index_of (trail_of s)

  -- what the call answers once the sheet passes the reading
  own : IsAccepted s → {v : Verdict ℕ} → Comes (room_questions (length index) (length out)) (length index) v → (index_call s out).answer ≡ v
  unfolding writing
  own accepts told = go_on (questions Read s) (room_questions (length index) (length out)) (length index) accepts ∙ sym (comes told)

  made : (n : ℕ) → (index_call s out).answer ≡ accepted n → IndexMade s out n
  unfolding writing
  made n answered =
      let told = yes_verdict (index_asks s out) (length index) n answered in
      let asked = yes_right (questions Read s) (room_questions (length index) (length out)) told.0 in
      let room = leb-true (length index) (length out) (yes_first _ 18 0 _ asked) in
      record {
        count = sym told.1;
        index = values_taken (index_asks s out) index out answered;
        rest = rest_kept (index_asks s out) index out answered room;
      }

pub index_answers_in_order : IndexAnswersInOrder
unfolding writing
index_answers_in_order s out = record {
  by_reading = λ n p e. stop (questions Read s) (room_questions (length (index_of (trail_of s))) (length out)) (header_of s) _ e;
  too_short = λ accepts short. own s out accepts (no (lt-leb _ _ short));
  passes = λ accepts enough. own s out accepts (yes (le-leb _ _ enough) done);
  made = made s out;
  kept = λ n p e.
      ap (λ (t : Bool). cond t (overwrite 0 (index_of (trail_of s)) out) out) (no_verdict (index_asks s out) (length (index_of (trail_of s))) e);
}
