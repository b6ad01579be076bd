-- A sheet's texts are written part by part: what a call for one part of a text comes to (document 01, "The programs" and "Questions,
-- in order").
use Rattle.std.specs.Prelude.{ℕ, ◌≤◌, ◌<◌, ◌≡◌, List, [], ◌∷◌, ◌++◌, leb, length, Result}
use Rattle.trail.specs.Trail.{Trail, line_count}
use Rattle.buffers.specs.Overwrite.{overwrite}
use Rattle.sheet.specs.Asking.{Question, ask, Verdict, verdict}
use Rattle.sheet.specs.Asking.Verdict.{accepted, refused}
use Rattle.answers.specs.Answers.{answer_means}
use Rattle.sheet.specs.Fields.{header_of, trail_of}
use Rattle.sheet.specs.Questions.{questions, room_questions, IsAccepted}
use Rattle.sheet.specs.declared.Header.{Header}
use Rattle.sheet.specs.declared.Mode.TheVariants.{Read}
use Rattle.answers.specs.Calls.{Call, writing}
use Rattle.answers.specs.declared.Refusal.{Refusal}

-- document 01's number and place for a refusal, the number of bytes written else
abbrev pub part_means : Result ℕ Refusal → Verdict ℕ
part_means = answer_means (λ n. n)

-- A text has a part for each line and one more, from 0 on. Is the part at most L? 17
abbrev pub part_questions : Header → ℕ → List Question
part_questions h part = ask (leb part h.lines) 17 0 ∷ []

-- bytes written where there is room for them: 18 for this very text
abbrev pub room_call : List ℕ → List ℕ → Call ℕ
room_call text out = writing (room_questions (length text) (length out)) text out

-- what is asked before a part is written: the sheet's questions, then 17
abbrev pub part_asks : List ℕ → ℕ → List Question
part_asks s part = questions Read s ++ part_questions (header_of s) part

-- the call for a part whose text is given: 18 last
abbrev pub part_call : List ℕ → ℕ → List ℕ → List ℕ → Call ℕ
part_call s part text out = writing (part_asks s part ++ room_questions (length text) (length out)) text out

-- A part that a text has is written wherever there is room for it: neither 17 nor 18 arises.
abbrev pub PartsAreWritten : Type 0
PartsAreWritten =
    (s : List ℕ) → IsAccepted s → (part : ℕ) → part ≤ line_count (trail_of s) → (text out : List ℕ) → length text ≤ length out
    → (part_call s part text out).answer ≡ accepted (length text)

-- What is asked before the room refuses whatever the room.
abbrev pub RefusedBeforeRoom : Type 0
RefusedBeforeRoom =
    (s : List ℕ) (part : ℕ) (text out : List ℕ) (number place : ℕ) → verdict (part_asks s part) (length text) ≡ refused number place
    → (part_call s part text out).answer ≡ refused number place

-- What a call for the parts of a text answers and leaves, of any sheet, part and buffer.
pub record AnswersParts (text : Trail → ℕ → List ℕ) (call : List ℕ → ℕ → List ℕ → Call ℕ) : Type 0 where
  -- a sheet that reading refuses is refused so, whatever the part and the room
  pub by_reading : (s : List ℕ) (part : ℕ) (out : List ℕ) (number place : ℕ) → verdict (questions Read s) (header_of s) ≡ refused number place
      → (call s part out).answer ≡ refused number place
  -- past the last part it is 17, place 0, whatever the room
  pub past_the_last : (s : List ℕ) → IsAccepted s → (part : ℕ) → line_count (trail_of s) < part → (out : List ℕ)
      → (call s part out).answer ≡ refused 17 0
  -- where the buffer is shorter than the text it is 18, place 0
  pub too_short : (s : List ℕ) → IsAccepted s → (part : ℕ) → part ≤ line_count (trail_of s) → (out : List ℕ)
      → length out < length (text (trail_of s) part) → (call s part out).answer ≡ refused 18 0
  -- a refusal leaves the buffer as it was
  pub unwritten : (s : List ℕ) (part : ℕ) (out : List ℕ) (number place : ℕ) → (call s part out).answer ≡ refused number place
      → (call s part out).buffer ≡ out
  -- else the text stands at the buffer's start, and the rest as it was
  pub in_room : (s : List ℕ) → IsAccepted s → (part : ℕ) → part ≤ line_count (trail_of s) → (out : List ℕ)
      → length (text (trail_of s) part) ≤ length out
      → ((call s part out).answer ≡ accepted (length (text (trail_of s) part))) × ((call s part out).buffer ≡ overwrite 0 (text (trail_of s) part) out)
