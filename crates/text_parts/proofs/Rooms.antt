-- A text that was written where there is room for it.
use Prim.Native.Nat.{ℕ, ◌≤◌}
use mathlib.Core.Path.{◌≡◌, sym}
use mathlib.Core.List.{List}
use borrow.Author.Tests.{le-leb}
use lib.ListN.{length}
use Rattle.buffers.specs.Overwrite.{Wrote}
use Rattle.sheet.specs.Asking.Verdict.{accepted}
use Rattle.sheet.specs.Questions.{room_questions}
use Rattle.sheet.proofs.Asking.{yes_one, verdict_yes}
use Rattle.answers.proofs.Calling.{written}
use Rattle.text_parts.specs.Parts.{room_call}

pub room_written : (text out : List ℕ) → length text ≤ length out → {p : ℕ} {after : List ℕ} → Wrote 0 text out p after
    → (accepted p ≡ (room_call text out).answer) × (after ≡ (room_call text out).buffer)
room_written text out room w =
    let asks = room_questions (length text) (length out) in
    written asks text out w (sym (verdict_yes asks (length text) (yes_one _ 18 0 (le-leb (length text) (length out) room))))
