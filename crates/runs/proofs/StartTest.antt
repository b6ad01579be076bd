-- Whether the words are a starting value of a sheet that was read: rules for `search` in the calls.
use Prim.Native.Nat.{ℕ}
use mathlib.Core.Path.{◌≡◌}
use mathlib.Core.Bool.{Bool}
use mathlib.Core.List.{List}
use Rattle.trail.specs.Trail.{Trail, input_count}
use Rattle.trail.specs.Runs.{is_start}
use Rattle.sheet.specs.Asking.{verdict}
use Rattle.sheet.specs.Asking.Verdict.{accepted}
use Rattle.sheet.specs.Fields.{header_of, trail_of}
use Rattle.sheet.specs.Questions.{questions}
use Rattle.sheet.specs.Facts.{Limited}
use Rattle.sheet.specs.declared.Header.{Header}
use Rattle.sheet.specs.declared.Mode.TheVariants.{Read}
use Rattle.sheet.proofs.Testing.{denied, granted}
use Rattle.answers.proofs.Calling.{was_read, calling}

module _ (s : List ℕ) {h : Header} (read : accepted h ≡ verdict (questions Read s) (header_of s)) where
  pub limited : Limited h
  limited = (was_read s read).limits

  -- what a test of the parts that reading gave says of the sheet's trail
  pub start_told : (x : List ℕ) (b : Bool) → ((t : Trail) → t.width ≡ h.width → input_count t ≡ h.inputs → b ≡ is_start t x)
      → b ≡ is_start (trail_of s) x
  start_told x b is = let w = was_read s read in is (trail_of s) w.width w.inputs

pub ruleset running = (calling, limited, start_told, denied, granted)
