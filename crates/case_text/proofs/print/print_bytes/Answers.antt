-- A byte's two digits stand behind those of the bytes before it.
use Rattle.std.proofs.Common.{◌<◌, rules, length, get_or, IfSome, sym, subst}
use Rattle.std.specs.Io.KnownBytes.{Appends}
use Rattle.std.proofs.KnownBytes.{Appends-trans}
use Rattle.case_text.proofs.Hexadecimal.{styled_byte, one_more}
use Rattle.case_text.proofs.print.print_bytes.Goals as goal

pub loop-byte-preserved : goal.loop-byte-preserved
loop-byte-preserved g c =
    let i = c.loop-byte.byte-index in
    let bytes = c.args.bytes.now in
    let before = g.W.Write.contents c.loop-byte.out in
    let after = g.W.Write.contents c.write.new.self in
    let within : i < length bytes = search rules in
    let fits : get_or bytes i 0 < 256 = search (rules, c.type_inv.bytes i) in
    let shown = styled_byte c.in_radix.result c.laid_out.result (get_or bytes i 0) c.in_radix.ensures c.laid_out.ensures fits in
    let written = subst (λ o. IfSome o (Appends before after)) shown c.in_ok-write.ensures.bytes in
    subst (Appends _ _) (sym (one_more bytes i within)) (Appends-trans _ _ _ _ _ c.loop-byte.invariant written)
