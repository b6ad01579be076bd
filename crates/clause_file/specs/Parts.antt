-- The clause file part by part: part 0 is the header's line, part 1 + k the clauses of line k.
use Rattle.std.specs.Prelude.{ℕ, zero, suc, ◌+◌, ◌*◌, ◌≤◌, ◌≡◌, List, length}
use Rattle.words.specs.Below.{concat}
use Rattle.trail.specs.Trail.{Trail, line_count}
use Rattle.clause_lists.specs.Variables.{variables}
use Rattle.clause_lists.specs.Lists.{line_clauses, clause_count}
use Rattle.sheet.specs.Asking.Verdict.{accepted}
use Rattle.sheet.specs.Fields.{trail_of}
use Rattle.sheet.specs.Questions.{IsAccepted}
use Rattle.answers.specs.Calls.{Call}
use Rattle.text_parts.specs.Parts.{part_call}
use Rattle.dimacs.specs.Text.{header_text, clauses_text}
use Rattle.clause_file.specs.File.{file_text}

unfoldable pub file_part : Trail → ℕ → List ℕ
file_part t zero = header_text (variables t) (clause_count t)
file_part t (suc k) = clauses_text (line_clauses t k)

-- what the call for one part comes to: the sheet's questions, 17 for the part, 18 for its very text
abbrev pub clause_text_call : List ℕ → ℕ → List ℕ → Call ℕ
clause_text_call s part out = part_call s part (file_part (trail_of s) part) out

-- The file is its parts in order.
abbrev pub FileIsItsParts : Type 0
FileIsItsParts = (t : Trail) → file_text t ≡ concat (line_count t + 1) (file_part t)

-- No part of an accepted sheet's file has more bytes than these, 7 for each of the 4,944 numbers that a line's list has at most: a
-- buffer of this length is enough for each.
abbrev pub most_bytes : ℕ
most_bytes = 7 * 4944

abbrev pub PartsAreWithin : Type 0
PartsAreWithin = (s : List ℕ) → IsAccepted s → (part : ℕ) → part ≤ line_count (trail_of s) → length (file_part (trail_of s) part) ≤ most_bytes

-- So with a buffer of this length 18 does not arise.
abbrev pub MostIsEnough : Type 0
MostIsEnough =
    (s : List ℕ) → IsAccepted s → (part : ℕ) → part ≤ line_count (trail_of s) → (out : List ℕ) → most_bytes ≤ length out
    → (clause_text_call s part out).answer ≡ accepted (length (file_part (trail_of s) part))
