-- The bytes joined are 0 where each of them is.
use Prim.Native.Nat.{ℕ, zero, suc, ◌+◌, ◌-◌, ◌≤◌, ◌<◌}
use native.Mathlib.Omega.{arith}
use mathlib.Core.Path.{◌≡◌, refl}
use mathlib.Core.Bool.{◌&&◌}
use mathlib.Core.List.{List}
use lib.Bits.{bit_or, or_zero_l, or_add_and, and_le_r}
use lib.Dec.{eqb}
use lib.ListN.{length, take, drop, length-drop}
use lib.Seq.{take-suc, get_or-drop}
use borrow.Author.Tests.{ne_eqb}
use Rattle.std.specs.List.{fold}
use Rattle.std.proofs.lemmas.List.Sums.{fold-append}
use Rattle.words.specs.Below.{all}
use Rattle.sheet.specs.Questions.{zero_bytes}
use Rattle.sheet_fields.proofs.predicates.zero_bytes.Goals as goal

or_zero : (x y : ℕ) → eqb (bit_or x y) 0 ≡ (eqb x 0 && eqb y 0)
or_zero zero y = rw (or_zero_l y)
or_zero (suc x) y =
    rw (ne_eqb (suc x) 0 (λ e. omega arith))
    (ne_eqb (bit_or (suc x) y) 0 (λ e. omega (arith, or_add_and (suc x) y, and_le_r (suc x) y)))

joined_zero : (k : ℕ) (s : List ℕ) (at : ℕ) → at + k ≤ length s → eqb (fold bit_or 0 (take k (drop at s))) 0 ≡ zero_bytes k s at
unfolding zero_bytes all
joined_zero zero s at h = refl
joined_zero (suc k) s at h =
    let more : k < length (drop at s) = omega (arith, length-drop at s) in
    rw (take-suc (drop at s) k 0 more, fold-append, or_zero, joined_zero k s at (omega arith), get_or-drop at s k 0)

pub returns : goal.returns
returns c =
    let a = c.args in
    let e : a.at + a.k - a.at ≡ a.k = omega arith in
    rw (c.joined.ensures, e) (joined_zero a.k a.s.now a.at c.requires)
