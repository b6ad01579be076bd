-- The laws of little-endian numbers. Assumes nothing.
use mathlib.Core.Path.{◌≡◌, refl, sym, ap}
use mathlib.Core.List.{List}
use Prim.Native.Nat.{ℕ, zero, suc, ◌+◌, ◌*◌, ◌^◌, ◌/◌, ◌%◌, ◌≤◌, ◌<◌}
use native.Mathlib.Nat.{zero-add, add-zero, suc-add, add_assoc, add_comm, one-mul, mul_comm, mul-add, mul_assoc, pow-suc, pow-succ', mod-lt, mod-one, one-le-pow}
use native.Mathlib.Numerals.{one-add}
use native.Mathlib.Omega.{arith}
use lib.Arith.{digits_lt, mod-mul}
use lib.ListN.{length, set, get_or, length-set}
use lib.Seq.{get_or-set_same}
use Rattle.buffers.specs.Overwrite.{overwrite}
use Rattle.buffers.specs.LittleEndian.{byte_at, number_at, bytes_of}
use Rattle.buffers.proofs.Overwrite.{overwrite_cons, get_or_overwrite_before}

-- ---- a number's bytes

pub length_bytes_of : (k v : ℕ) → length (bytes_of k v) ≡ k
unfolding bytes_of
length_bytes_of zero v = refl
length_bytes_of (suc k) v = ap suc (length_bytes_of k (v / 256))

pub byte_bytes_of : (k v i : ℕ) → get_or (bytes_of k v) i 0 < 256
unfolding bytes_of
byte_bytes_of zero v i = omega arith
byte_bytes_of (suc k) v zero = mod-lt v (omega arith)
byte_bytes_of (suc k) v (suc i) = byte_bytes_of k (v / 256) i

-- ---- the number of the bytes at a position

-- the lower j bytes, and the k bytes above them
pub number_add : (j k : ℕ) (s : List ℕ) (i : ℕ) → number_at (j + k) s i ≡ number_at j s i + 256 ^ j * number_at k s (i + j)
unfolding number_at
number_add zero k s i = rw (zero-add k, add-zero i, one-mul, zero-add)
number_add (suc j) k s i =
    rw (suc-add, number_add j k s (i + 1), add_assoc i 1 j, one-add, pow-succ', mul_assoc, mul-add, add_assoc)

-- what holds of the suc k places from i on holds of the first, and of the k places behind it
module _ (P : ℕ → Type 0) (i : ℕ) {k : ℕ} (h : (j : ℕ) → j < suc k → P (i + j)) where
  first : P i
  first = rw (← add-zero i) (h zero (omega arith))

  others : (j : ℕ) → j < k → P (i + 1 + j)
  others j l = rw (add_assoc, one-add) (h (suc j) (omega arith))

-- equal bytes make an equal number
pub number_cong : (k : ℕ) (s t : List ℕ) (i : ℕ) → ((j : ℕ) → j < k → byte_at s (i + j) ≡ byte_at t (i + j))
    → number_at k s i ≡ number_at k t i
unfolding number_at
number_cong zero s t i h = refl
number_cong (suc k) s t i h =
    let same : ℕ → Type 0 = λ n. byte_at s n ≡ byte_at t n in
    rw (first same i h, number_cong k s t (i + 1) (others same i h))

-- bytes below 256 make a number that k bytes hold
pub number_lt : (k : ℕ) (s : List ℕ) (i : ℕ) → ((j : ℕ) → j < k → byte_at s (i + j) < 256) → number_at k s i < 256 ^ k
unfolding number_at
number_lt zero s i h = omega arith
number_lt (suc k) s i h =
    let small : ℕ → Type 0 = λ n. byte_at s n < 256 in
    rw (add_comm (byte_at s i), mul_comm 256, pow-suc) (digits_lt (number_lt k s (i + 1) (others small i h)) (first small i h))

-- a number that was written is read again, up to the bytes that were written
pub number_written : (k v at : ℕ) (l : List ℕ) → at + k ≤ length l → number_at k (overwrite at (bytes_of k v) l) at ≡ v % 256 ^ k
unfolding number_at bytes_of
number_written zero v at l h = sym (mod-one v)
number_written (suc k) v at l h =
    let bs : List ℕ = bytes_of k (v / 256) in
    let stored : List ℕ = set l at (v % 256) in
    let room : at + 1 + k ≤ length stored = rw length-set (omega arith) in
    let here : at < length l = omega arith in
    let lowest = get_or_overwrite_before (at + 1) bs stored (omega arith) at 0 (omega arith) in
    let above = number_written k (v / 256) (at + 1) stored room in
    let split = mod-mul v {m = 256 ^ k} {c = 256} (one-le-pow k 256 (omega arith)) (omega arith) in
    rw (overwrite_cons at (v % 256) bs l here, lowest, get_or-set_same, above, pow-suc, split) (omega arith)
