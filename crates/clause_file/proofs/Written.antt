-- What the calls for the parts of the file write, lent buffers that are long enough, is the file.
use Prim.Native.Nat.{ℕ, ◌+◌}
use native.Mathlib.Omega.{arith}
use mathlib.Core.Path.{◌≡◌, sym, ◌∙◌}
use mathlib.Core.Bool.{cond}
use mathlib.Core.List.{List, []}
use borrow.Author.Tests.{le-leb}
use lib.Dec.{leb}
use Rattle.words.proofs.Below.{concat_cong}
use Rattle.trail.specs.Trail.{line_count}
use Rattle.sheet.specs.Fields.{trail_of}
use Rattle.sheet.specs.Questions.{IsAccepted}
use Rattle.text_parts.proofs.Accepted.{written_part, parts_are_written}
use Rattle.clause_file.specs.File.{file_text}
use Rattle.text_parts.specs.Parts.{AnswersParts}
use Rattle.text_parts.proofs.Answers.{answers_parts}
use Rattle.clause_file.specs.Parts.{file_part, clause_text_call, MostIsEnough}
use Rattle.clause_file.specs.Demand3.{written_file, EveryFileIsWritten}
use Rattle.clause_file.proofs.Parts.{file_is_its_parts, parts_are_within}

pub every_file_is_written : EveryFileIsWritten
unfolding written_file
every_file_is_written s accepts buffers long =
    concat_cong (line_count (trail_of s) + 1) _ (file_part (trail_of s))
    (λ part l. written_part s accepts part (omega arith) (file_part (trail_of s) part) (buffers part) (long part (omega arith)))
    ∙ sym (file_is_its_parts (trail_of s))

pub most_is_enough : MostIsEnough
most_is_enough s accepts part most out room =
    parts_are_written s accepts part most (file_part (trail_of s) part) out (omega (arith, parts_are_within s accepts part most))

-- Buffers that just hold the parts are enough, and past the last none is needed.
pub just_enough : (s : List ℕ) → IsAccepted s
    → written_file s (λ part. cond (leb part (line_count (trail_of s))) (file_part (trail_of s) part) []) ≡ file_text (trail_of s)
just_enough s accepts = every_file_is_written s accepts _ (λ part most. rw (le-leb part (line_count (trail_of s)) most) (omega arith))

pub answers_file_parts : AnswersParts file_part clause_text_call
answers_file_parts = answers_parts file_part
