-- Bytes that stand in a list from a position on: what was put together piece by piece is read again piece by piece. Assumes nothing.
use mathlib.Core.Path.{◌≡◌, sym, ap, subst, ◌∙◌}
use mathlib.Core.List.{List, [], ◌∷◌, ◌++◌}
use Prim.Native.Nat.{ℕ, zero, suc, ◌+◌, ◌^◌, ◌/◌, ◌%◌, ◌≤◌, ◌<◌}
use native.Mathlib.Nat.{zero-add, add-zero, pow-suc, mod-one, mod-eq_of_lt, one-le-pow}
use native.Mathlib.Omega.{arith}
use lib.Arith.{mod-mul}
use lib.ListN.{length, length-append, get_or-append}
use lib.Seq.{get_or-append-add}
use Rattle.buffers.specs.LittleEndian.{byte_at, number_at, bytes_of}
use Rattle.buffers.proofs.LittleEndian.{length_bytes_of}

-- the bytes `part` stand in s from the position `at` on
pub record Stands (at : ℕ) (part s : List ℕ) : Type 0 where
  pub long : at + length part ≤ length s
  pub same : (i : ℕ) → i < length part → byte_at s (at + i) ≡ byte_at part i

pub stands_whole : (s : List ℕ) → Stands 0 s s
stands_whole s = record { long = omega arith; same = λ i l. ap (byte_at s) (zero-add i) }

-- another way to write the position
pub stands_at_lem : {at p : ℕ} {part s : List ℕ} → at ≡ p → Stands at part s → Stands p part s
stands_at_lem {part = part} {s} e h = subst (λ (q : ℕ). Stands q part s) e h

module _ {at : ℕ} {s : List ℕ} where
  -- of two pieces the first,
  pub stands_left : (a b : List ℕ) → Stands at (a ++ b) s → Stands at a s
  stands_left a b h = record {
    long = omega (arith, length-append a b, h.long);
    same = λ i l. h.same i (omega (arith, length-append a b)) ∙ get_or-append a b 0 i l;
  }

  -- and the second behind it
  pub stands_right : (a b : List ℕ) → Stands at (a ++ b) s → Stands (at + length a) b s
  stands_right a b h = record {
    long = omega (arith, length-append a b, h.long);
    same = λ i l.
        ap (byte_at s) (omega arith)
        ∙ h.same (length a + i) (omega (arith, length-append a b))
        ∙ get_or-append-add a b i 0;
  }

  -- the first byte
  pub stands_first : (x : ℕ) (xs : List ℕ) → Stands at (x ∷ xs) s → byte_at s at ≡ x
  stands_first x xs h = ap (byte_at s) (sym (add-zero at)) ∙ h.same 0 (omega arith)

-- a number is read as it was written, up to its bytes
pub stands_number : (k v at : ℕ) (s : List ℕ) → Stands at (bytes_of k v) s → number_at k s at ≡ v % 256 ^ k
unfolding number_at bytes_of
stands_number zero v at s h = sym (mod-one v)
stands_number (suc k) v at s h =
    let lowest = stands_first (v % 256) (bytes_of k (v / 256)) h in
    let above = stands_number k (v / 256) (at + 1) s (stands_right (v % 256 ∷ []) (bytes_of k (v / 256)) h) in
    let split = mod-mul v {m = 256 ^ k} {c = 256} (one-le-pow k 256 (omega arith)) (omega arith) in
    rw (lowest, above, pow-suc, split) (omega arith)

-- a number that its bytes hold, and what stands behind it
pub stands_field : (k v : ℕ) (rest : List ℕ) {at : ℕ} {s : List ℕ} → v < 256 ^ k → Stands at (bytes_of k v ++ rest) s
    → (number_at k s at ≡ v) × Stands (at + k) rest s
stands_field k v rest {at} {s} small h = (
  stands_number k v at s (stands_left (bytes_of k v) rest h) ∙ mod-eq_of_lt small,
  stands_at_lem (ap (λ (n : ℕ). at + n) (length_bytes_of k v)) (stands_right (bytes_of k v) rest h),
)
