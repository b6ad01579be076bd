-- The owner's demands on reading and sealing, beyond what the contracts of the calls say by themselves.
use Rattle.std.specs.Prelude.{ℕ, ◌%◌, ◌<◌, ◌≡◌, true, List, length}
use Rattle.buffers.specs.LittleEndian.{byte_at}
use Rattle.sheet.specs.Asking.{all_yes, verdict}
use Rattle.sheet.specs.Fields.{header_of, trail_of}
use Rattle.sheet.specs.Questions.{questions}
use Rattle.sheet.specs.Questions.{IsAccepted}
use Rattle.sealed_sheets.specs.Sealing.{sealed}
use Rattle.sheet.specs.declared.Mode.TheVariants.{Seal}

-- Two lists of bytes are the same outside the checks, bytes 508 to 511 of each block.
pub record SameButChecks (s t : List ℕ) : Type 0 where
  pub same_length : length s ≡ length t
  pub same_byte : (i : ℕ) → i % 512 < 508 → byte_at s i ≡ byte_at t i

-- Demand 2: a sheet that sealing accepts becomes readable, only its checks changed.
pub record Sealed (s : List ℕ) : Type 0 where
  pub readable : IsAccepted (sealed s)
  pub same_trail : trail_of (sealed s) ≡ trail_of s
  pub only_checks : SameButChecks (sealed s) s

abbrev pub SealingIsRight : Type 0
SealingIsRight = (s : List ℕ) → all_yes (questions Seal s) ≡ true → Sealed s

-- Neither sealing's answer nor what it writes depends on what stood at the checks before.
pub record SealedAlike (s t : List ℕ) : Type 0 where
  pub same_answer : verdict (questions Seal s) (header_of s) ≡ verdict (questions Seal t) (header_of t)
  pub same_bytes : all_yes (questions Seal s) ≡ true → sealed s ≡ sealed t

abbrev pub SealingForgetsChecks : Type 0
SealingForgetsChecks = (s t : List ℕ) → SameButChecks s t → SealedAlike s t
