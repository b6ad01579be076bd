-- What a call for the parts of a text answers and leaves.
use Prim.Native.Nat.{ℕ, ◌≤◌, ◌<◌}
use native.Mathlib.Omega.{arith}
use mathlib.Core.Path.{◌≡◌, ap, ◌∙◌}
use mathlib.Core.Bool.{Bool, true, false, cond}
use mathlib.Core.List.{List, ◌++◌}
use borrow.Author.Tests.{le-leb, lt-leb}
use lib.Dec.{leb}
use lib.ListN.{length}
use Rattle.buffers.specs.Overwrite.{overwrite}
use Rattle.trail.specs.Trail.{Trail, line_count}
use Rattle.sheet.specs.Asking.{all_yes, verdict}
use Rattle.sheet.specs.Asking.Verdict.{refused}
use Rattle.sheet.specs.Fields.{header_of, trail_of}
use Rattle.sheet.specs.Questions.{questions, room_questions, IsAccepted}
use Rattle.sheet.specs.declared.Mode.TheVariants.{Read}
use Rattle.sheet.proofs.Asking.{yes_both, yes_one, verdict_yes, no_verdict, go_on, stop}
use Rattle.sheet.proofs.TrailParts.{trail_lines}
use Rattle.answers.specs.Calls.{writing}
use Rattle.text_parts.specs.Parts.{part_questions, part_asks, part_call, AnswersParts}
use Rattle.text_parts.proofs.Calls.{refused_before_room}

module _ (s : List ℕ) (accepts : IsAccepted s) (part : ℕ) where
  is-past : line_count (trail_of s) < part → (a : ℕ) → verdict (part_asks s part) a ≡ refused 17 0
  unfolding verdict
  is-past l a =
      let past : leb part (header_of s).lines ≡ false = lt-leb part (header_of s).lines (omega (arith, trail_lines s)) in
      go_on (questions Read s) (part_questions (header_of s) part) a accepts ∙ rw past

  is_there : part ≤ line_count (trail_of s) → all_yes (part_asks s part) ≡ true
  is_there l = yes_both (questions Read s) _ accepts (yes_one _ 17 0 (le-leb part (header_of s).lines (omega (arith, trail_lines s))))

pub answers_parts : (text : Trail → ℕ → List ℕ) → AnswersParts text (λ s part out. part_call s part (text (trail_of s) part) out)
unfolding writing verdict
answers_parts text = record {
  by_reading = λ s part out number place e.
      refused_before_room s part (text (trail_of s) part) out number place
      (stop (questions Read s) (part_questions (header_of s) part) (header_of s) (length (text (trail_of s) part)) e);
  past_the_last = λ s accepts part l out.
      refused_before_room s part (text (trail_of s) part) out 17 0
      (is-past s accepts part l (length (text (trail_of s) part)));
  too_short = λ s accepts part most out l.
      go_on (part_asks s part) (room_questions (length (text (trail_of s) part)) (length out)) (length (text (trail_of s) part)) (is_there s accepts part most)
      ∙ rw (lt-leb (length (text (trail_of s) part)) (length out) l);
  unwritten = λ s part out number place e.
      let asks = part_asks s part ++ room_questions (length (text (trail_of s) part)) (length out) in
      ap (λ (t : Bool). cond t (overwrite 0 (text (trail_of s) part) out) out) (no_verdict asks (length (text (trail_of s) part)) e);
  in_room = λ s accepts part most out room.
      let asks = part_asks s part ++ room_questions (length (text (trail_of s) part)) (length out) in
      let yes = yes_both (part_asks s part) _ (is_there s accepts part most) (yes_one _ 18 0 (le-leb (length (text (trail_of s) part)) (length out) room)) in
      (verdict_yes asks (length (text (trail_of s) part)) yes, ap (λ (t : Bool). cond t (overwrite 0 (text (trail_of s) part) out) out) yes);
}
