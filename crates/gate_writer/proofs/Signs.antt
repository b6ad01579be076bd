-- Negation of a literal, as the machine has it. Assumes nothing.
use mathlib.Core.Path.{◌≡◌, sym, ap, ◌∙◌, subst}
use mathlib.Core.Bool.{Bool, true, false, cond}
use Prim.Native.Nat.{zero, suc, ◌+◌, ◌-◌, ◌^◌, ◌≤◌, ◌<◌}
use native.Mathlib.Omega.{arith}
use lib.IntN.{ℤ, pos, negsuc, neg_ℤ, ◌-ℤ◌, +ℤ_idl}
use lib.Signed.{mag}
use mir.Syntax.{w32}
use mir.Val.{to_z, of_z, SFits}
use mir.Facts.{to_z-of_z}

module _ (l : ℤ) (h : mag l < 2 ^ 31 - 1) where
  small_fits : SFits w32 l
  small_fits = record { sfits = omega arith }

  -- what is read back
  pub same : to_z w32 (of_z w32 l) ≡ l
  same = to_z-of_z small_fits

  minus : pos 0 -ℤ to_z w32 (of_z w32 l) ≡ neg_ℤ l
  minus = ap (λ (z : ℤ). pos 0 -ℤ z) same ∙ +ℤ_idl (neg_ℤ l)

mag_neg : (l : ℤ) → mag (neg_ℤ l) ≤ mag l + 1
mag_neg (pos zero) = omega arith
mag_neg (pos (suc n)) = omega arith
mag_neg (negsuc n) = omega arith

neg_fits : (l : ℤ) → mag l < 2 ^ 31 - 1 → SFits w32 (neg_ℤ l)
neg_fits l h = record { sfits = omega (arith, mag_neg l) }

pub minus_fits : (l : ℤ) → mag l < 2 ^ 31 - 1 → SFits w32 (pos 0 -ℤ to_z w32 (of_z w32 l))
minus_fits l h = subst (SFits w32) (sym (minus l h)) (neg_fits l h)

signed_fits : (b : Bool) (l : ℤ) → mag l < 2 ^ 31 - 1 → SFits w32 (cond b (neg_ℤ l) l)
signed_fits true l h = neg_fits l h
signed_fits false l h = small_fits l h

pub negated : (l : ℤ) → mag l < 2 ^ 31 - 1 → to_z w32 (of_z w32 (pos 0 -ℤ to_z w32 (of_z w32 l))) ≡ neg_ℤ l
negated l h = ap (λ (z : ℤ). to_z w32 (of_z w32 z)) (minus l h) ∙ to_z-of_z (neg_fits l h)

-- a literal made from one that was read, as it is stored
pub stored : (b : Bool) (l r : ℤ) → mag l < 2 ^ 31 - 1 → r ≡ cond b (neg_ℤ (to_z w32 (of_z w32 l))) (to_z w32 (of_z w32 l))
    → to_z w32 (of_z w32 r) ≡ cond b (neg_ℤ l) l
stored b l r h e =
    ap (λ (z : ℤ). to_z w32 (of_z w32 z)) (e ∙ ap (λ (z : ℤ). cond b (neg_ℤ z) z) (same l h)) ∙ to_z-of_z (signed_fits b l h)
