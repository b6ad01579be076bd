use Prim.Native.Nat.{ℕ}
use native.Mathlib.Omega.{arith}
use mathlib.Core.Path.{◌≡◌, refl, ◌∙◌}
use mathlib.Core.List.{List}
use lib.ListN.{length, get_or}
use Rattle.buffers.specs.LittleEndian.{bytes_of}
use Rattle.buffers.proofs.LittleEndian.{length_bytes_of}
use Rattle.sheet.specs.Form.{word_bytes}
use Rattle.sheet.specs.Fields.{trail_of}
use Rattle.sheet.specs.declared.Header.{Header}
use Rattle.sheet.proofs.FormSizes.{input_inside}
use Rattle.sheet_writer.proofs.Pieces.{pieces_none, pieces_place, pieces_next}
use Rattle.sheet_writer.proofs.header.put_inputs.Goals as goal

abbrev input : List ℕ → Header → ℕ → List ℕ
input s h j = bytes_of (word_bytes h.form) (get_or (trail_of s).inputs j 0)

input_length : (s : List ℕ) (h : Header) (j : ℕ) → length (input s h j) ≡ word_bytes h.form
input_length s h j = length_bytes_of (word_bytes h.form) (get_or (trail_of s).inputs j 0)

pub loop-j-init : goal.loop-j-init
loop-j-init c =
    let a = c.args in
    (refl, pieces_none (input a.sheet.now.bytes.now a.sheet.now.header) (word_bytes a.sheet.now.header.form) (input_length a.sheet.now.bytes.now a.sheet.now.header))

pub put_number-next-requires : goal.put_number-next-requires
put_number-next-requires c =
    let a = c.args in
    let h = c.loop-j in
    let place = pieces_place (input a.sheet.now.bytes.now a.sheet.now.header) (word_bytes a.sheet.now.header.form) (input_length a.sheet.now.bytes.now a.sheet.now.header) h.j h.invariant.1 in
    omega (arith, input_inside a.sheet.now.header.form h.j (omega arith))

pub loop-j-preserved : goal.loop-j-preserved
loop-j-preserved c =
    let h = c.loop-j in
    let put = c.put_number-next in
    let s = c.args.sheet.now.bytes.now in
    let p = c.args.sheet.now.header in (
      put.auto.s ∙ h.invariant.0,
      pieces_next (input s p) (word_bytes p.form) (input_length s p) h.j
          (omega (arith, input_inside p.form h.j (omega arith))) h.invariant.1
          (rw (c.word_bytes-word.ensures, c.input_at.ensures) at put.ensures),
    )
