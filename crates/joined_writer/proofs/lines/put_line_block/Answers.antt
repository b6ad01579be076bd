use Prim.Native.Nat.{ℕ, ◌+◌, ◌*◌}
use native.Mathlib.Omega.{arith}
use mathlib.Core.Path.{◌≡◌, refl, ap, ap₂, ◌∙◌}
use mathlib.Core.List.{List}
use lib.ListN.{length}
use Rattle.buffers.proofs.Appending.{wrote_append}
use Rattle.trail.specs.Trail.{Trail, line_at}
use Rattle.sheet.specs.Form.{record_bytes, records_in_block}
use Rattle.sheet.specs.declared.Form.{Form}
use Rattle.sheet.proofs.FormSizes.{sizes, record_ends}
use Rattle.sheet_encoding.specs.Encoding.{record_bytes_of, line_block}
use Rattle.sheet_encoding.proofs.Encoding.{record_length, pieces_length}
use Rattle.sheet_writer.proofs.Pieces.{pieces_none, pieces_place, pieces_next}
use Rattle.joined_sheets.specs.JoinedSheet.{joined_trail}
use Rattle.joined_writer.proofs.lines.put_line_block.Goals as goal

-- record j of line block i
abbrev piece : Form → Trail → ℕ → ℕ → List ℕ
piece f t i j = record_bytes_of f (line_at t (records_in_block f * i + j))

piece_length : (f : Form) (t : Trail) (i j : ℕ) → length (piece f t i j) ≡ record_bytes f
piece_length f t i j = record_length f (line_at t (records_in_block f * i + j))

pub loop-j-init : goal.loop-j-init
loop-j-init c =
    let a = c.args in
    let t = joined_trail a.first.now.bytes.now a.second.now.bytes.now a.names.now in
    (refl, pieces_none (piece a.first.now.header.form t a.i) (record_bytes a.first.now.header.form) (piece_length a.first.now.header.form t a.i))

pub put_record-next-requires : goal.put_record-next-requires
put_record-next-requires c =
    let a = c.args in
    let f = a.first.now.header.form in
    let t = joined_trail a.first.now.bytes.now a.second.now.bytes.now a.names.now in
    let h = c.loop-j in
    let place = pieces_place (piece f t a.i) (record_bytes f) (piece_length f t a.i) h.j h.invariant.1 in
    omega (arith, record_ends f h.j (omega arith))

pub loop-j-preserved : goal.loop-j-preserved
loop-j-preserved c =
    let a = c.args in
    let f = a.first.now.header.form in
    let t = joined_trail a.first.now.bytes.now a.second.now.bytes.now a.names.now in
    let h = c.loop-j in
    let put = c.put_record-next in
    let line = c.joined_line_at-line.ensures ∙ ap (λ (n : ℕ). line_at t (n * a.i + h.j)) c.records_in_block-records.ensures in (
      put.auto.out ∙ h.invariant.0,
      pieces_next (piece f t a.i) (record_bytes f) (piece_length f t a.i) h.j (omega (arith, record_ends f h.j (omega arith))) h.invariant.1
          (rw line at put.ensures),
    )

pub put_zeros-requires : goal.put_zeros-requires
put_zeros-requires c =
    let a = c.args in
    let f = a.first.now.header.form in
    let t = joined_trail a.first.now.bytes.now a.second.now.bytes.now a.names.now in
    let h = c.loop-j in
    let all : h.j ≡ records_in_block f = omega arith in
    let place = pieces_place (piece f t a.i) (record_bytes f) (piece_length f t a.i) h.j h.invariant.1 in
    omega (arith, ap (λ (n : ℕ). record_bytes f * n) all, ap₂ ◌*◌ c.record_bytes.ensures c.records_in_block-records.ensures, (sizes f).filled)

pub returns : goal.returns
unfolding line_block
returns c =
    let a = c.args in
    let f = a.first.now.header.form in
    let t = joined_trail a.first.now.bytes.now a.second.now.bytes.now a.names.now in
    let h = c.loop-j in
    let all : h.j ≡ records_in_block f = omega arith in
    let zeros = rw (c.record_bytes.ensures, c.records_in_block-records.ensures) at c.put_zeros.ensures in
    wrote_append (omega (arith, pieces_length (piece f t a.i) (record_bytes f) (records_in_block f) (λ j _. piece_length f t a.i j), (sizes f).filled))
    (rw all at h.invariant.1) zeros
