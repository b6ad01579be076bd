-- The invariant: the input differences passed are written, each in as many bytes as the form's words take.
use Prim.Native.Nat.{ℕ}
use mathlib.Core.Path.{◌≡◌}
use mathlib.Core.List.{List}
use lib.ListN.{length, get_or}
use Rattle.words.specs.Below.{concat}
use Rattle.buffers.specs.Overwrite.{Wrote}
use Rattle.buffers.specs.LittleEndian.{bytes_of}
use Rattle.sheet.specs.Form.{word_bytes}
use Rattle.sheet.specs.Fields.{trail_of}
use Rattle.sheet.specs.declared.Header.{Header}
use Rattle.sheet_writer.proofs.header.put_inputs.Given as goal

abbrev input : List ℕ → Header → ℕ → List ℕ
input s h j = bytes_of (word_bytes h.form) (get_or (trail_of s).inputs j 0)

abbrev pub invariant-loop-j : goal.invariant-loop-j
invariant-loop-j l =
    (length l.out ≡ length l.initial.out) × Wrote l.at (concat l.j (input l.sheet.bytes.now l.sheet.header)) l.initial.out l.next l.out
