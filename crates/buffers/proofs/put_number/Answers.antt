use mathlib.Core.Path.{◌≡◌}
use mathlib.Core.List.{List, [], ◌∷◌, ◌++◌}
use Prim.Native.Nat.{ℕ, suc, ◌+◌, ◌-◌, ◌≤◌, ◌<◌, ◌/◌, ◌%◌}
use native.Mathlib.Nat.{sub-zero, sub-eq-zero_of_le}
use native.Mathlib.Omega.{arith}
use lib.ListN.{length, take, drop, length-take, length-drop}
use Rattle.buffers.specs.LittleEndian.{bytes_of}
use Rattle.buffers.proofs.Appending.{left_start, left_take, left_whole, wrote_set, wrote_part}
use Rattle.buffers.proofs.LittleEndian.{length_bytes_of}
use Rattle.buffers.proofs.put_number.Goals as goal

-- the next byte is the lowest of what is left of the number
next_byte : (k i v : ℕ) → i < k → bytes_of (k - i) v ≡ (v % 256 ∷ []) ++ bytes_of (k - (i + 1)) (v / 256)
unfolding bytes_of
next_byte k i v h =
    let e : k - i ≡ suc (k - (i + 1)) = omega arith in
    rw e

no_byte : (k i v : ℕ) → k ≤ i → bytes_of (k - i) v ≡ []
unfolding bytes_of
no_byte k i v h = rw (sub-eq-zero_of_le h)

-- the bytes are as many as the part's
part_length : (at k v : ℕ) (s : List ℕ) → at + k ≤ length s → length (bytes_of k v) ≡ length (take (at + k - at) (drop at s))
part_length at k v s h = rw length_bytes_of (simp (length-take, length-drop) (omega arith))

pub loop-byte-init : goal.loop-byte-init
loop-byte-init c =
    let a = c.args in
    rw sub-zero (left_start _ _ _ (omega (arith, part_length a.at a.k a.number a.s.now c.requires)))

pub loop-byte-preserved : goal.loop-byte-preserved
loop-byte-preserved c =
    let a = c.args in
    let h = c.loop-byte in
    let more : h.byte-index < a.k = omega (arith, length_bytes_of a.k a.number, part_length a.at a.k a.number a.s.now c.requires) in
    left_take (next_byte _ _ _ more) h.invariant (wrote_set h.byte-index _ _ (omega arith))

pub returns : goal.returns
returns c =
    let a = c.args in
    let long = part_length a.at a.k a.number a.s.now c.requires in
    let all : a.k ≤ c.loop-byte.byte-index = omega (arith, long, length_bytes_of a.k a.number) in
    wrote_part a.at (a.at + a.k - a.at) (omega (arith, length_bytes_of a.k a.number)) (omega arith)
    (left_whole long (no_byte _ _ _ all) c.loop-byte.invariant)
