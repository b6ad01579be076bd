-- What the call for the index answers, and what it has written then (document 02, W-208).
use Rattle.std.specs.Prelude.{ℕ, ◌<◌, ◌≤◌, ◌≡◌, List, length, take, drop}
use Rattle.sheet.specs.Asking.{verdict}
use Rattle.sheet.specs.Asking.Verdict.{accepted, refused}
use Rattle.sheet.specs.Fields.{header_of, trail_of}
use Rattle.sheet.specs.Questions.{questions, IsAccepted}
use Rattle.sheet.specs.declared.Mode.TheVariants.{Read}
use Rattle.sheet_indexes.specs.Index.{index_of}
use Rattle.sheet_indexes.specs.IndexCall.{index_call}

-- A call that was not refused counts the numbers of the index. So many numbers of the buffer are the index; the rest is kept.
pub record IndexMade (s out : List ℕ) (n : ℕ) : Type 0 where
  pub count : n ≡ length (index_of (trail_of s))
  pub index : take n (index_call s out).buffer ≡ index_of (trail_of s)
  pub rest : drop n (index_call s out).buffer ≡ drop n out

-- Refusals in their order: those of the reading, then 18. A refused call writes nothing.
pub record IndexAnswered (s out : List ℕ) : Type 0 where
  pub by_reading : (n p : ℕ) → verdict (questions Read s) (header_of s) ≡ refused n p → (index_call s out).answer ≡ refused n p
  pub too_short : IsAccepted s → length out < length (index_of (trail_of s)) → (index_call s out).answer ≡ refused 18 0
  pub passes : IsAccepted s → length (index_of (trail_of s)) ≤ length out → (index_call s out).answer ≡ accepted (length (index_of (trail_of s)))
  pub made : (n : ℕ) → (index_call s out).answer ≡ accepted n → IndexMade s out n
  pub kept : (n p : ℕ) → (index_call s out).answer ≡ refused n p → (index_call s out).buffer ≡ out

-- for all bytes and buffers
abbrev pub IndexAnswersInOrder : Type 0
IndexAnswersInOrder = (s out : List ℕ) → IndexAnswered s out
