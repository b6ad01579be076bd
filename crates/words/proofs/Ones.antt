-- A count of a word's ones is a count of places.
use mathlib.Core.Path.{◌≡◌, refl, ap, ◌∙◌}
use mathlib.Core.Bool.{Bool, true, false}
use Prim.Native.Nat.{ℕ, zero, suc, ◌%◌, ◌^◌}
use native.Mathlib.Nat.{mod-lt, mod-one}
use native.Mathlib.Omega.{arith}
use lib.Count.{ones, ones_cat}
use lib.Pow.{pow_pos}
use Rattle.words.specs.Words.{value, bit}
use Rattle.words.specs.Below.{count}
use Rattle.words.proofs.Bits.{mod_bit}

ones_value : (b : Bool) → ones (value b) ≡ value b
unfolding ones
ones_value false = refl
ones_value true = refl

pub ones_count : (n x : ℕ) → ones (x % 2 ^ n) ≡ count n (bit x)
unfolding count
ones_count zero x = ap ones (mod-one x) ∙ ones_value false
ones_count (suc n) x =
    ap ones (mod_bit x n)
    ∙ ones_cat n (value (bit x n)) (x % 2 ^ n) (mod-lt x (pow_pos n))
    ∙ omega (arith, ones_count n x, ones_value (bit x n))
