-- A call that was not refused has read two accepted sheets and a list of names that passes, and has written their joined sheet; one
-- that was refused has written nothing.
use Prim.Native.Nat.{ℕ, ◌+◌}
use mathlib.Core.Path.{◌≡◌, sym, ap, ◌∙◌}
use mathlib.Core.Bool.{Bool, cond}
use mathlib.Core.List.{List, ◌++◌}
use borrow.Author.Tests.{leb-true, le-leb, lt-leb, ne_eqb, eq-eqb}
use lib.ListN.{length}
use Rattle.buffers.specs.Overwrite.{overwrite}
use Rattle.trail.specs.WellFormed.{most_lines}
use Rattle.sheet.specs.Asking.{Question, Verdict, verdict}
use Rattle.sheet.specs.Fields.{header_of}
use Rattle.sheet.specs.Questions.{questions, room_questions, IsAccepted}
use Rattle.sheet.specs.declared.Mode.TheVariants.{Read}
use Rattle.sheet.proofs.Asking.{yes_left, yes_right, yes_both, yes_first, yes_one, yes_verdict, no_verdict, verdict_yes, go_on, stop, Comes, comes}
use Rattle.sheet.proofs.Asking.Comes.{yes, no}
use Rattle.answers.specs.Calls.{writing}
use Rattle.answers.proofs.Calling.{values_taken, rest_kept}
use Rattle.joined_sheets.specs.JoinedSheet.{join_questions, joined_sheet}
use Rattle.joined_sheets.proofs.Joined.{joined_sheets_are_right}
use Rattle.joined_sheets.specs.JoinCall.{join_asks, join_call}
use Rattle.joined_sheets.specs.Answered.{WritesTheJoinedSheet, JoinsWhatPasses, JoinRefusesInOrder}

pub writes_the_joined_sheet : WritesTheJoinedSheet
unfolding writing
writes_the_joined_sheet first second names out n answered =
    let sheet = joined_sheet first second names in
    let told = yes_verdict (join_asks first second names out) (length sheet) n answered in
    let later = yes_right (questions Read first) _ told.0 in
    let own = yes_right (questions Read second) _ later in
    let room = leb-true (length sheet) (length out) (yes_first _ 18 0 _ (yes_right (join_questions first second names) _ own)) in
    record {
      right =
          joined_sheets_are_right first second names
          (yes_left (questions Read first) _ told.0)
          (yes_left (questions Read second) _ later)
          (yes_left (join_questions first second names) _ own);
      written = values_taken (join_asks first second names out) sheet out answered;
      rest = rest_kept (join_asks first second names out) sheet out answered room;
    }

pub joins_what_passes : JoinsWhatPasses
unfolding writing
joins_what_passes first second names out one two passed enough =
    let sheet = joined_sheet first second names in
    verdict_yes (join_asks first second names out) (length sheet)
    (yes_both (questions Read first) _ one
    (yes_both (questions Read second) _ two
    (yes_both (join_questions first second names) _ passed (yes_one _ 18 0 (le-leb (length sheet) (length out) enough)))))

module _ (first second names out : List ℕ) where
  abbrev bytes : ℕ
  bytes = length (joined_sheet first second names)

  abbrev room : List Question
  room = room_questions bytes (length out)

  -- what the call answers once both sheets pass the reading
  both_pass : IsAccepted first → IsAccepted second
      → (join_call first second names out).answer ≡ verdict (join_questions first second names ++ room) bytes
  unfolding writing
  both_pass one two = go_on (questions Read first) _ bytes one ∙ go_on (questions Read second) _ bytes two

  -- from the answers to 20, 21 and 22 and 18, one after the other
  own : {v : Verdict ℕ} → Comes (join_questions first second names ++ room) bytes v
      → IsAccepted first → IsAccepted second → (join_call first second names out).answer ≡ v
  own told one two = both_pass one two ∙ sym (comes told)

pub join_refuses_in_order : JoinRefusesInOrder
unfolding writing join_questions
join_refuses_in_order first second names out =
    let need = length (joined_sheet first second names) in
    record {
      first_unread = λ n p told. stop (questions Read first) _ (header_of first) need told;
      second_unread = λ one n p told.
          go_on (questions Read first) _ need one ∙ stop (questions Read second) _ (header_of second) need told;
      other_width = λ one two differ. own first second names out (no (ne_eqb _ _ differ)) one two;
      wrong_names = λ one two same wrong. own first second names out (yes (eq-eqb _ _ same) (no wrong)) one two;
      many_lines = λ one two same right many.
          own first second names out (yes (eq-eqb _ _ same) (yes right (no (lt-leb _ most_lines many)))) one two;
      no_room = λ one two passed short.
          both_pass first second names out one two ∙ go_on (join_questions first second names) _ need passed
          ∙ sym (comes (no (lt-leb need (length out) short)));
      bytes = λ n p told.
          ap (λ (t : Bool). cond t (overwrite 0 (joined_sheet first second names) out) out)
          (no_verdict (join_asks first second names out) need told);
    }
