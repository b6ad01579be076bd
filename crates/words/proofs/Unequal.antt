-- Two words differ where some of their bits do.
use mathlib.Core.Path.{◌≡◌, refl, ap, ap₂, ◌∙◌}
use mathlib.Core.Bool.{Bool, not, ◌&&◌, ◌||◌, xor}
use Prim.Native.Nat.{ℕ, zero, suc, ◌%◌, ◌^◌}
use native.Mathlib.Nat.{mod-one}
use lib.Dec.{eqb}
use Rattle.words.specs.Words.{bit}
use Rattle.words.specs.Below.{any}
use Rattle.words.proofs.Bits.{eqb_bit}
use Rattle.words.proofs.TruthTables.{by_table}

not_both : (p q : Bool) → not (not p && q) ≡ (not q || p)
not_both = by_table 2 (λ p q. not (not p && q)) (λ p q. not q || p) refl

-- among the n lowest
pub unequal_any : (n x y : ℕ) → not (eqb (x % 2 ^ n) (y % 2 ^ n)) ≡ any n (λ i. xor (bit x i) (bit y i))
unfolding any
unequal_any zero x y = ap₂ (λ (z w : ℕ). not (eqb z w)) (mod-one x) (mod-one y)
unequal_any (suc n) x y =
    ap not (eqb_bit x y n)
    ∙ not_both (xor (bit x n) (bit y n)) (eqb (x % 2 ^ n) (y % 2 ^ n))
    ∙ ap (λ t. t || xor (bit x n) (bit y n)) (unequal_any n x y)
