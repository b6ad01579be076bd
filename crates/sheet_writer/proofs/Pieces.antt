-- Pieces of one length, written one behind the other: rules for the loops that write them.
use Prim.Native.Nat.{ℕ, ◌+◌, ◌*◌, ◌≤◌}
use native.Mathlib.Numerals.{add-one}
use native.Mathlib.Omega.{arith}
use mathlib.Core.Path.{◌≡◌}
use mathlib.Core.List.{List}
use lib.ListN.{length}
use Rattle.words.specs.Below.{concat}
use Rattle.buffers.specs.Overwrite.{Wrote}
use Rattle.buffers.proofs.Appending.{wrote_none, wrote_append}
use Rattle.sheet_encoding.proofs.Encoding.{pieces_length}

module _ (f : ℕ → List ℕ) (m : ℕ) (each : (k : ℕ) → length (f k) ≡ m) {at : ℕ} {l : List ℕ} where
  pub pieces_none : Wrote at (concat 0 f) l at l
  unfolding concat
  pieces_none = wrote_none at l

  -- the next position
  pub pieces_place : (k : ℕ) {p : ℕ} {out : List ℕ} → Wrote at (concat k f) l p out → p ≡ at + m * k
  pieces_place k w = omega (arith, pieces_length f m k (λ i _. each i))

  pub pieces_next : (k : ℕ) {p q : ℕ} {out after : List ℕ} → at + m * k ≤ length l → Wrote at (concat k f) l p out → Wrote p (f k) out q after
      → Wrote at (concat (k + 1) f) l q after
  unfolding concat
  pieces_next k room w v = rw add-one (wrote_append (omega (arith, pieces_length f m k (λ i _. each i))) w v)
