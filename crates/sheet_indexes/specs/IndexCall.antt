-- What the call for the index comes to (document 02, W-208).
use Rattle.std.specs.Prelude.{ℕ, List, ◌++◌, length}
use Rattle.sheet.specs.Asking.{Question}
use Rattle.sheet.specs.Fields.{trail_of}
use Rattle.sheet.specs.Questions.{questions, room_questions}
use Rattle.sheet.specs.declared.Mode.TheVariants.{Read}
use Rattle.answers.specs.Calls.{Call, writing}
use Rattle.sheet_indexes.specs.Index.{index_of}

-- after the reading, 18 exactly where the buffer is shorter than this index
abbrev pub index_asks : List ℕ → List ℕ → List Question
index_asks s out = questions Read s ++ room_questions (length (index_of (trail_of s))) (length out)

-- the index from the buffer's start; the count is that of its numbers
abbrev pub index_call : List ℕ → List ℕ → Call ℕ
index_call s out = writing (index_asks s out) (index_of (trail_of s)) out
