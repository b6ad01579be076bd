-- What the call for one line's list writes, lent a buffer that is long enough, is the line's list.
use Prim.Native.Nat.{ℕ, ◌≤◌, ◌<◌}
use native.Mathlib.Omega.{arith}
use mathlib.Core.Path.{◌≡◌}
use mathlib.Core.Bool.{true}
use mathlib.Core.List.{List}
use borrow.Author.Tests.{lt-ltb, le-leb}
use lib.ListN.{length}
use lib.IntN.{ℤ}
use Rattle.words.proofs.Below.{concat_cong}
use Rattle.trail.specs.Trail.{line_count}
use Rattle.clause_lists.specs.Lists.{line_list, joined}
use Rattle.sheet.specs.Asking.{all_yes}
use Rattle.sheet.specs.Fields.{header_of, trail_of}
use Rattle.sheet.specs.Questions.{questions, line_number_questions, room_questions}
use Rattle.sheet.specs.Questions.{IsAccepted}
use Rattle.sheet.specs.declared.Mode.TheVariants.{Read}
use Rattle.sheet.proofs.Asking.{yes_both, yes_one}
use Rattle.sheet.proofs.TrailParts.{trail_lines}
use Rattle.answers.specs.Calls.{written}
use Rattle.answers.proofs.Calling.{written_values}
use Rattle.clauses.specs.Answers.{list_asks, list_call}
use Rattle.clauses.specs.Demand3.{joined_list, LongEnough}

module _ (s : List ℕ) (accepts : IsAccepted s) (k : ℕ) (below : k < line_count (trail_of s)) (out : List ℤ)
    (room : length (line_list (trail_of s) k) ≤ length out) where
  yes_line : all_yes (line_number_questions (header_of s) k) ≡ true
  yes_line = yes_one _ 17 0 (lt-ltb k (header_of s).lines (omega (arith, trail_lines s)))

  yes_room : all_yes (room_questions (length (line_list (trail_of s) k)) (length out)) ≡ true
  yes_room = yes_one _ 18 0 (le-leb (length (line_list (trail_of s) k)) (length out) room)

  yes_all : all_yes (list_asks s k out) ≡ true
  yes_all = yes_both (questions Read s) _ accepts (yes_both (line_number_questions (header_of s) k) _ yes_line yes_room)

  pub written_list : written (list_call s k out) ≡ line_list (trail_of s) k
  written_list = written_values (list_asks s k out) (line_list (trail_of s) k) out yes_all room

pub joined_list_lem : (s : List ℕ) → IsAccepted s → (buffers : ℕ → List ℤ) → LongEnough s buffers → joined_list s buffers ≡ joined (trail_of s)
unfolding joined_list joined
joined_list_lem s accepts buffers long =
    concat_cong (line_count (trail_of s)) (λ k. written (list_call s k (buffers k))) (line_list (trail_of s))
    (λ k l. written_list s accepts k l (buffers k) (long k l))
