-- `buffers::put_number` meets its contract. The loop's invariant: what is left to write is the lowest k - i bytes of what is left of
-- the number. Assumes nothing.
use Prim.Native.Nat.{◌-◌}
use Rattle.buffers.specs.LittleEndian.{bytes_of}
use Rattle.buffers.proofs.Appending.{Left}
use Rattle.buffers.proofs.put_number.Given as goal

abbrev pub invariant-loop-byte : goal.invariant-loop-byte
invariant-loop-byte l =
    Left 0 (bytes_of l.k l.number) l.initial.byte-items l.byte-index (bytes_of (l.k - l.byte-index) l.rest) l.byte-items
