-- What was read stands behind what had been, and the reader has lost both.
use Rattle.std.proofs.Common.{◌-◌, rules, length, sym, subst}
use Rattle.std.specs.Io.KnownBytes.{Consumes}
use Rattle.std.proofs.KnownBytes.{Consumes-trans}
use Rattle.sheet_input.proofs.Reading.{read_behind}
use Rattle.sheet_input.proofs.read_input.Goals as goal

pub loop-end-preserved : goal.loop-end-preserved
loop-end-preserved g c =
    let room = length c.loop-end.buffer - c.loop-end.end in
    let read = c.in_ok-more.ensures in
    let front = read_behind c.loop-end.end c.in_ok-more.more room c.loop-end.buffer c.read.new.buf c.loop-end.invariant.0 read.bound.0 in
    (search rules, subst (Consumes _ _) (sym front) (Consumes-trans _ _ _ _ _ c.loop-end.invariant.1 read.bytes.0))
