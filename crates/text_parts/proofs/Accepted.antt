-- What the call for a part writes, of an accepted sheet and lent a buffer that is long enough.
use Prim.Native.Nat.{ℕ, ◌≤◌}
use native.Mathlib.Omega.{arith}
use mathlib.Core.Path.{◌≡◌}
use mathlib.Core.Bool.{true}
use mathlib.Core.List.{List, ◌++◌}
use borrow.Author.Tests.{le-leb}
use lib.ListN.{length}
use Rattle.trail.specs.Trail.{line_count}
use Rattle.sheet.specs.Asking.{all_yes}
use Rattle.sheet.specs.Fields.{header_of, trail_of}
use Rattle.sheet.specs.Questions.{questions, room_questions, IsAccepted}
use Rattle.sheet.specs.declared.Mode.TheVariants.{Read}
use Rattle.sheet.proofs.Asking.{yes_both, yes_one, verdict_yes}
use Rattle.sheet.proofs.TrailParts.{trail_lines}
use Rattle.answers.specs.Calls.{writing, written}
use Rattle.answers.proofs.Calling.{written_values}
use Rattle.text_parts.specs.Parts.{part_asks, part_call, PartsAreWritten}

module _ (s : List ℕ) (accepts : IsAccepted s) (part : ℕ) (most : part ≤ line_count (trail_of s)) (text out : List ℕ)
    (room : length text ≤ length out) where
  yes_all : all_yes (part_asks s part ++ room_questions (length text) (length out)) ≡ true
  yes_all =
      yes_both (part_asks s part) _
      (yes_both (questions Read s) _ accepts (yes_one _ 17 0 (le-leb part (header_of s).lines (omega (arith, trail_lines s)))))
      (yes_one _ 18 0 (le-leb (length text) (length out) room))

  pub written_part : written (part_call s part text out) ≡ text
  written_part = written_values _ text out yes_all room

pub parts_are_written : PartsAreWritten
unfolding writing
parts_are_written s accepts part most text out room = verdict_yes _ (length text) (yes_all s accepts part most text out room)
