use native.Mathlib.Omega.{arith}
use mathlib.Core.Path.{refl, ◌∙◌}
use Rattle.sheet_encoding.specs.Encoding.{line_block}
use Rattle.sheet_encoding.proofs.Encoding.{line_block_length}
use Rattle.sheet_writer.proofs.Pieces.{pieces_none, pieces_place, pieces_next}
use Rattle.joined_sheets.specs.JoinedSheet.{joined_trail}
use Rattle.joined_writer.proofs.lines.put_line_blocks.Goals as goal

pub loop-i-init : goal.loop-i-init
loop-i-init c =
    let a = c.args in
    let t = joined_trail a.first.now.bytes.now a.second.now.bytes.now a.names.now in
    (refl, pieces_none (line_block a.first.now.header.form t) 512 (line_block_length a.first.now.header.form t))

pub put_line_block-next-requires : goal.put_line_block-next-requires
put_line_block-next-requires c =
    let a = c.args in
    let t = joined_trail a.first.now.bytes.now a.second.now.bytes.now a.names.now in
    let h = c.loop-i in
    let place = pieces_place (line_block a.first.now.header.form t) 512 (line_block_length a.first.now.header.form t) h.i h.invariant.1 in
    (c.requires.0, omega arith, omega arith)

pub loop-i-preserved : goal.loop-i-preserved
loop-i-preserved c =
    let a = c.args in
    let t = joined_trail a.first.now.bytes.now a.second.now.bytes.now a.names.now in
    let h = c.loop-i in
    let put = c.put_line_block-next in (
      put.auto.out ∙ h.invariant.0,
      pieces_next (line_block a.first.now.header.form t) 512 (line_block_length a.first.now.header.form t) h.i (omega arith) h.invariant.1 put.ensures,
    )
