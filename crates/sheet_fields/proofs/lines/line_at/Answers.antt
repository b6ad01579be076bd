-- A line is its record without the zero field.
use Prim.Native.Nat.{◌<◌}
use mathlib.Core.Path.{sym, ap, ◌∙◌, subst}
use Rattle.sheet.specs.Fields.{record_of, line_of}
use Rattle.sheet.proofs.TrailParts.{trail_line}
use Rattle.sheet.specs.declared.Header.{Header}
use Rattle.sheet_fields.proofs.lines.line_at.Goals as goal

pub record_of-record-requires : goal.record_of-record-requires
record_of-record-requires c =
    let read = c.args.sheet.now.read in
    (read.blocks, read.limits, c.requires)

pub returns : goal.returns
returns c =
    let s = c.args.sheet.now.bytes.now in
    let k = c.args.k in
    let parts = sym c.args.sheet.now.read.parts in
    let less = subst (λ (h : Header). k < h.lines) parts c.requires in
    let same = ap (λ (h : Header). line_of (record_of h.form s k)) parts in
    ap line_of c.record_of-record.ensures ∙ same ∙ sym (trail_line s k less)
