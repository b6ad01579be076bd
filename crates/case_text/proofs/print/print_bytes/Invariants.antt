-- What was written is the digits of the bytes that were passed.
use Rattle.std.proofs.Common.{take}
use Rattle.std.specs.Io.KnownBytes.{Appends}
use Rattle.case_text.specs.Hexadecimal.{hexadecimal}
use Rattle.case_text.proofs.print.print_bytes.Given as goal

abbrev pub invariant-loop-byte : goal.invariant-loop-byte
invariant-loop-byte g l = Appends (g.W.Write.contents l.initial.out) (g.W.Write.contents l.out) (hexadecimal (take l.byte-index l.bytes))
