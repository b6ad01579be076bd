-- Block 0, the line blocks and the checks are the joined sheet.
use Prim.Native.Nat.{ℕ, ◌+◌, ◌*◌}
use native.Mathlib.Omega.{arith}
use mathlib.Core.Path.{refl, sym, ap, ◌∙◌}
use Rattle.sheet.specs.Questions.{line_blocks}
use Rattle.sheet.specs.declared.Header.{Header}
use Rattle.sheet.proofs.FormSizes.{blocks_enough, blocks_fit}
use Rattle.sheet_encoding.specs.Encoding.{sheet_of}
use Rattle.sheet_encoding.proofs.Encoding.{header_length}
use Rattle.sheet_writer.proofs.SheetBytes.{sheet_written}
use Rattle.joined_sheets.specs.JoinedSheet.{joined_trail, joined_sheet}
use Rattle.joined_writer.proofs.JoinedCounts.{joined_lines}
use Rattle.joined_writer.proofs.write_joined.Goals as goal

pub put_line_blocks-requires : goal.put_line_blocks-requires
put_line_blocks-requires c =
    let a = c.args in
    let f = a.first.now.header.form in
    let t = joined_trail a.first.now.bytes.now a.second.now.bytes.now a.names.now in
    let header = c.put_header-lines_at.ensures t a.first.now.read.width refl (joined_lines a.first.now.read a.second.now.read a.names.now) in
    let few = blocks_enough f (a.first.now.header.lines + a.second.now.header.lines) c.requires.1 in
    (c.requires.0, omega (arith, blocks_fit f), omega (arith, header.next, header_length f t))

pub returns : goal.returns
unfolding joined_sheet
returns c =
    let a = c.args in
    let f = a.first.now.header.form in
    let t = joined_trail a.first.now.bytes.now a.second.now.bytes.now a.names.now in
    let lines = joined_lines a.first.now.read a.second.now.read a.names.now in
    let count = c.line_blocks-blocks.ensures ∙ ap (line_blocks f) (sym lines) in
    let header = c.put_header-lines_at.ensures t a.first.now.read.width refl lines in
    sheet_written f t (c.requires.2 ∙ ap (λ (n : ℕ). 512 * (1 + line_blocks f n)) (sym lines)) header (rw count at c.put_line_blocks.ensures) (rw count at c.write_checks.ensures)
    ∙ ap (λ (h : Header). sheet_of h.form t) (sym a.first.now.read.parts)
