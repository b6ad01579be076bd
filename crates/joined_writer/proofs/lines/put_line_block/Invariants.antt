-- The invariant: the records passed are written. Behind the last of them come the block's zeros.
use Prim.Native.Nat.{ℕ, ◌+◌, ◌*◌}
use mathlib.Core.Path.{◌≡◌}
use mathlib.Core.List.{List}
use lib.ListN.{length}
use Rattle.words.specs.Below.{concat}
use Rattle.buffers.specs.Overwrite.{Wrote}
use Rattle.trail.specs.Trail.{Trail, line_at}
use Rattle.sheet.specs.Form.{records_in_block}
use Rattle.sheet.specs.declared.Form.{Form}
use Rattle.sheet_encoding.specs.Encoding.{record_bytes_of}
use Rattle.joined_sheets.specs.JoinedSheet.{joined_trail}
use Rattle.joined_writer.proofs.lines.put_line_block.Given as goal

-- record j of line block i
abbrev piece : Form → Trail → ℕ → ℕ → List ℕ
piece f t i j = record_bytes_of f (line_at t (records_in_block f * i + j))

abbrev pub invariant-loop-j : goal.invariant-loop-j
invariant-loop-j l =
    (length l.out ≡ length l.initial.out) × Wrote l.at (concat l.j (piece l.first.header.form (joined_trail l.first.bytes.now l.second.bytes.now l.names) l.i)) l.initial.out l.next l.out
