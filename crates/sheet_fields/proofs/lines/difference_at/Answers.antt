-- A word is an input or a line's result.
use native.Mathlib.Omega.{arith}
use Prim.Native.Nat.{◌-◌, ◌≤◌, ◌<◌}
use mathlib.Core.Path.{sym, ap, ◌∙◌, subst}
use Rattle.trail.specs.declared.Line.{Line}
use Rattle.trail.specs.Trail.{line_at}
use Rattle.sheet.specs.Fields.{input_difference, trail_of}
use Rattle.sheet.proofs.FormSizes.{sizes}
use Rattle.sheet.proofs.TrailParts.{input_difference_lem, line_difference}
use Rattle.sheet.specs.declared.Header.{Header}
use Rattle.sheet_fields.proofs.lines.difference_at.Goals as goal

pub input_difference-requires : goal.input_difference-requires
input_difference-requires c =
    let inside = (sizes c.args.sheet.now.header.form).inputs_inside in
    (omega arith, omega arith)

pub returns-then-j-inputs : goal.returns-then-j-inputs
returns-then-j-inputs c =
    let s = c.args.sheet.now.bytes.now in
    let j = c.args.j in
    let parts = sym c.args.sheet.now.read.parts in
    let less = subst (λ (h : Header). j < h.inputs) parts c.if-j-inputs.true in
    let same = ap (λ (h : Header). input_difference h.form s j) parts in
    c.input_difference.ensures ∙ same ∙ sym (input_difference_lem s j less)

pub returns : goal.returns
returns c =
    let s = c.args.sheet.now.bytes.now in
    let j = c.args.j in
    let more = subst (λ (h : Header). h.inputs ≤ j) (sym c.args.sheet.now.read.parts) c.if-j-inputs.false in
    let same = ap (λ (h : Header). (line_at (trail_of s) (j - h.inputs)).difference) (sym c.args.sheet.now.read.parts) in
    ap (λ (l : Line). l.difference) c.line_at-line.ensures ∙ same ∙ sym (line_difference s j more)
