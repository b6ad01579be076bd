-- The invariant: the line blocks passed are written.
use mathlib.Core.Path.{◌≡◌}
use lib.ListN.{length}
use Rattle.words.specs.Below.{concat}
use Rattle.buffers.specs.Overwrite.{Wrote}
use Rattle.sheet_encoding.specs.Encoding.{line_block}
use Rattle.joined_sheets.specs.JoinedSheet.{joined_trail}
use Rattle.joined_writer.proofs.lines.put_line_blocks.Given as goal

abbrev pub invariant-loop-i : goal.invariant-loop-i
invariant-loop-i l =
    (length l.out ≡ length l.initial.out) × Wrote l.at (concat l.i (line_block l.first.header.form (joined_trail l.first.bytes.now l.second.bytes.now l.names))) l.initial.out l.next l.out
