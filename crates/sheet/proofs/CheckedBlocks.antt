-- Every block of an accepted sheet holds its check.
use Prim.Native.Nat.{ℕ, ◌<◌}
use mathlib.Core.Path.{◌≡◌}
use mathlib.Core.List.{List}
use borrow.Author.Tests.{eqb-true}
use Rattle.buffers.specs.LittleEndian.{number_at}
use Rattle.sheet.specs.Fields.{header_of}
use Rattle.sheet.specs.Checks.{check_of, check_position}
use Rattle.sheet.specs.Questions.{length_questions, check_question, check_questions, questions}
use Rattle.sheet.specs.Questions.{IsAccepted}
use Rattle.sheet.proofs.Asking.{yes_left, yes_right, yes_first, yes_at}

pub accepted_checked : (s : List ℕ) → IsAccepted s → (b : ℕ) → b < (header_of s).blocks → number_at 4 s (check_position b) ≡ check_of s b
unfolding questions check_questions check_question
accepted_checked s e b l =
    eqb-true _ _ (yes_first _ _ _ _ (yes_at (check_question s) (header_of s).blocks (yes_left _ _ (yes_right (length_questions s) _ e)) b l))
