-- What the call for a part comes to once its first questions are answered, and what it takes of its room.
use Prim.Native.Nat.{ℕ, ◌≤◌, ◌<◌}
use native.Mathlib.Omega.{arith}
use mathlib.Core.Path.{◌≡◌, sym, ap, subst, ◌∙◌}
use mathlib.Core.Bool.{true, false}
use mathlib.Core.List.{List, [], ◌++◌}
use borrow.Author.Tests.{le-leb, lt-leb, leb-true}
use lib.Dec.{leb}
use lib.ListN.{length}
use Rattle.sheet.specs.Asking.{all_yes, verdict}
use Rattle.sheet.specs.Asking.Verdict.{accepted, refused}
use Rattle.sheet.specs.Facts.{SheetRead}
use Rattle.sheet.specs.Fields.{header_of}
use Rattle.sheet.specs.Questions.{questions, room_questions}
use Rattle.sheet.specs.declared.Header.{Header}
use Rattle.sheet.specs.declared.Mode.TheVariants.{Read}
use Rattle.sheet.proofs.Asking.{yes_first, yes_left, yes_right, yes_both, yes_one, yes_verdict, verdict_yes, go_on, stop}
use Rattle.sheet.proofs.WellFormed.{has_read}
use Rattle.answers.specs.Calls.{writing}
use Rattle.answers.proofs.Calling.{after_yes}
use Rattle.text_parts.specs.Parts.{part_questions, part_asks, room_call, part_call, RefusedBeforeRoom}

module _ (s : List ℕ) (part : ℕ) (text out : List ℕ) where
  -- only the room is left to ask for
  pub part_there : all_yes (part_asks s part) ≡ true → part_call s part text out ≡ room_call text out
  part_there = after_yes (part_asks s part) (room_questions (length text) (length out)) text out

  -- what was written had room
  pub part_within : {n : ℕ} → accepted n ≡ (part_call s part text out).answer → n ≤ length out
  unfolding writing
  part_within e =
      let asked = yes_verdict (part_asks s part ++ room_questions (length text) (length out)) (length text) _ (sym e) in
      let room = yes_right (part_asks s part) (room_questions (length text) (length out)) asked.0 in
      omega (arith, asked.1, leb-true (length text) (length out) (yes_first _ 18 0 [] room))

pub refused_before_room : RefusedBeforeRoom
unfolding writing
refused_before_room s part text out number place e =
    stop (part_asks s part) (room_questions (length text) (length out)) (length text) (length text) e

-- ---- a sheet that was read, and a part

module _ {s : List ℕ} {h : Header} (read : SheetRead s h) (part : ℕ) where
  -- past the last part: 17
  pub part_past : h.lines < part → {A : Type 0} (a : A) → refused 17 0 ≡ verdict (part_asks s part) a
  unfolding verdict
  part_past l a =
      let past : leb part (header_of s).lines ≡ false =
      subst (λ (g : Header). leb part g.lines ≡ false) (sym read.parts) (lt-leb part h.lines l) in
      sym (go_on (questions Read s) (part_questions (header_of s) part) a read.accepted ∙ rw past)

  -- else the parts that reading gave
  pub part_asked : part ≤ h.lines → accepted h ≡ verdict (part_asks s part) (header_of s)
  part_asked l =
      let there : leb part (header_of s).lines ≡ true =
      subst (λ (g : Header). leb part g.lines ≡ true) (sym read.parts) (le-leb part h.lines l) in
      ap accepted (sym read.parts)
      ∙ sym (verdict_yes (part_asks s part) (header_of s)
      (yes_both (questions Read s) (part_questions (header_of s) part) read.accepted (yes_one _ 17 0 there)))

-- and the other way round: what an acceptance settles
pub record PartRead (s : List ℕ) (part : ℕ) (h : Header) : Type 0 where
  pub read : SheetRead s h
  pub most : part ≤ h.lines
  pub passed : all_yes (part_asks s part) ≡ true

pub part_read : (s : List ℕ) (part : ℕ) (h : Header) → accepted h ≡ verdict (part_asks s part) (header_of s) → PartRead s part h
part_read s part h e =
    let yes_all = yes_verdict (part_asks s part) (header_of s) h (sym e) in
    let own = yes_right (questions Read s) (part_questions (header_of s) part) yes_all.0 in
    let most = leb-true part (header_of s).lines (yes_first _ 17 0 [] own) in
    record {
      read = has_read s h (yes_left (questions Read s) (part_questions (header_of s) part) yes_all.0) yes_all.1;
      most = subst (λ (g : Header). part ≤ g.lines) yes_all.1 most;
      passed = yes_all.0;
    }
