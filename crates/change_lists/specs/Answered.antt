-- What the call for a list of changes answers, and what it has left and written then (document 02, W-207).
use Rattle.std.specs.Prelude.{ℕ, ◌/◌, ◌<◌, ◌≤◌, ◌≡◌, List, [], ◌∷◌, length, take, drop}
use Rattle.buffers.specs.LittleEndian.{byte_at}
use Rattle.sheet.specs.Asking.{verdict}
use Rattle.sheet.specs.Asking.Verdict.{accepted, refused}
use Rattle.sheet.specs.Fields.{header_of}
use Rattle.sheet.specs.Questions.{questions, IsAccepted}
use Rattle.sheet.specs.declared.Mode.TheVariants.{Read}
use Rattle.changed_sheets.specs.ChangeCall.{change_call}
use Rattle.change_lists.specs.Pairs.{pairs_of}
use Rattle.change_lists.specs.Applied.{sheet_after, reply_of, replies_to}
use Rattle.change_lists.specs.ChangesCall.{changes_call, changes_sheet}

-- A call that was not refused counts the pairs, one for every two numbers. It leaves the sheet with the pairs applied, which is again
-- an accepted one. As many bytes of the reply buffer as there are pairs are the replies; the rest is kept.
pub record ChangesMade (s numbers out : List ℕ) (n : ℕ) : Type 0 where
  pub pairs : n ≡ length (pairs_of numbers)
  pub numbers_halved : n ≡ length numbers / 2
  pub read_again : IsAccepted (changes_sheet s numbers out)
  pub sheet : changes_sheet s numbers out ≡ sheet_after s (pairs_of numbers)
  pub replies : take n (changes_call s numbers out).buffer ≡ replies_to s (pairs_of numbers)
  pub rest : drop n (changes_call s numbers out).buffer ≡ drop n out

-- a refused call applies nothing and writes nothing
pub record ChangesKept (s numbers out : List ℕ) : Type 0 where
  pub unapplied : changes_sheet s numbers out ≡ s
  pub unwritten : (changes_call s numbers out).buffer ≡ out

-- Refusals in their order: those of the reading, then 24, then 25.
pub record ChangesAnswered (s numbers out : List ℕ) : Type 0 where
  pub by_reading : (n p : ℕ) → verdict (questions Read s) (header_of s) ≡ refused n p → (changes_call s numbers out).answer ≡ refused n p
  pub too_many : IsAccepted s → 64 < length (pairs_of numbers) → (changes_call s numbers out).answer ≡ refused 24 0
  pub too_short : IsAccepted s → length (pairs_of numbers) ≤ 64 → length out < length (pairs_of numbers)
      → (changes_call s numbers out).answer ≡ refused 25 0
  pub passes : IsAccepted s → length (pairs_of numbers) ≤ 64 → length (pairs_of numbers) ≤ length out
      → (changes_call s numbers out).answer ≡ accepted (length (pairs_of numbers))
  pub made : (n : ℕ) → (changes_call s numbers out).answer ≡ accepted n → ChangesMade s numbers out n
  pub kept : (n p : ℕ) → (changes_call s numbers out).answer ≡ refused n p → ChangesKept s numbers out

-- for all bytes, numbers and buffers
abbrev pub ChangesAnswerInOrder : Type 0
ChangesAnswerInOrder = (s numbers out : List ℕ) → ChangesAnswered s numbers out

-- ---- a list of one pair

-- The sheet afterwards is the change call's, and the reply is that call's number; a sheet that the reading refuses has the refusal
-- that the change call has.
pub record OnePair (s : List ℕ) (k d : ℕ) (out : List ℕ) : Type 0 where
  pub sheet : changes_sheet s (k ∷ (d ∷ [])) out ≡ (change_call s k d).buffer
  pub reply : IsAccepted s → byte_at (changes_call s (k ∷ (d ∷ [])) out).buffer 0 ≡ reply_of (change_call s k d).answer
  pub unread : (n p : ℕ) → verdict (questions Read s) (header_of s) ≡ refused n p
      → (changes_call s (k ∷ (d ∷ [])) out).answer ≡ (change_call s k d).answer

-- whatever the sheet, line and difference, and wherever there is room for a reply
abbrev pub OnePairIsAChange : Type 0
OnePairIsAChange = (s : List ℕ) (k d : ℕ) (out : List ℕ) → 1 ≤ length out → OnePair s k d out
