-- What the call answers, from what its stages answered.
use Prim.Native.Nat.{ℕ, ◌+◌, ◌*◌, ◌≤◌, ◌<◌}
use native.Mathlib.Omega.{arith}
use mathlib.Core.Path.{◌≡◌, sym, ap, ◌∙◌}
use mathlib.Core.Bool.{true}
use mathlib.Core.List.{List, ◌++◌}
use borrow.Author.Tests.{le-leb, lt-leb}
use lib.ListN.{length}
use Rattle.sheet.specs.Asking.{Question, all_yes, verdict}
use Rattle.sheet.specs.Asking.Verdict.{accepted, refused}
use Rattle.sheet.specs.Facts.{SheetRead}
use Rattle.sheet.specs.Questions.{line_blocks, questions, room_questions}
use Rattle.sheet.specs.declared.Header.{Header}
use Rattle.sheet.specs.declared.Mode.TheVariants.{Read}
use Rattle.sheet.proofs.Asking.{yes_verdict, go_on, comes}
use Rattle.sheet.proofs.Asking.Comes.{done, yes, no}
use Rattle.answers.proofs.Calling.{after_yes}
use Rattle.sheet_encoding.specs.Encoding.{sheet_of}
use Rattle.sheet_writer.proofs.SheetBytes.{sheet_length}
use Rattle.joined_writer.proofs.JoinedCounts.{joined_lines}
use Rattle.joined_sheets.specs.JoinedSheet.{join_questions, joined_trail, joined_sheet}
use Rattle.joined_sheets.proofs.Joined.{few_lines, can}
use Rattle.joined_sheets.specs.JoinCall.{join_call}
use Rattle.joining.specs.Answers.{own_call}

module _ {first second : List ℕ} (names out : List ℕ) {a b : Header} (one : SheetRead first a) (two : SheetRead second b) where
  abbrev own : List Question
  own = join_questions first second names

  abbrev room : List Question
  room = room_questions (length (joined_sheet first second names)) (length out)

  -- both sheets pass the reading
  pub both_read : join_call first second names out ≡ own_call first second names out
  both_read =
      after_yes (questions Read first) (questions Read second ++ (own ++ room)) (joined_sheet first second names) out one.accepted
      ∙ after_yes (questions Read second) (own ++ room) (joined_sheet first second names) out two.accepted

  -- the bytes that the joined sheet takes
  pub joined_need : length (joined_sheet first second names) ≡ 512 * (1 + line_blocks a.form (a.lines + b.lines))
  unfolding joined_sheet
  joined_need =
      ap (λ (h : Header). length (sheet_of h.form (joined_trail first second names))) one.parts
      ∙ sheet_length a.form (joined_trail first second names)
      ∙ ap (λ (lines : ℕ). 512 * (1 + line_blocks a.form lines)) (joined_lines one two names)

  -- questions 20 to 22 are passed
  module _ {h : Header} (told : accepted h ≡ verdict own a) where
    passed : all_yes own ≡ true
    passed = (yes_verdict own a h (sym told)).0

    pub lines_most : a.lines + b.lines ≤ 248
    lines_most = omega (arith, few_lines first second names passed, one.lines, two.lines)

    pub names_many : length names ≡ b.inputs
    names_many = (can first second names passed).each_named ∙ two.inputs

    -- question 18
    pub room_refused : (n : ℕ) → length out < length (joined_sheet first second names) → refused 18 0 ≡ verdict (own ++ room) n
    room_refused n short =
        comes (no (lt-leb (length (joined_sheet first second names)) (length out) short)) ∙ sym (go_on own room n passed)

    pub room_enough : (n : ℕ) → length (joined_sheet first second names) ≤ length out → accepted n ≡ verdict (own ++ room) n
    room_enough n enough =
        comes (yes (le-leb (length (joined_sheet first second names)) (length out) enough) done) ∙ sym (go_on own room n passed)
