-- The size of a number, as the machine comes to it: one less than the size of a negative number is -(z + 1), which always fits. Assumes
-- nothing.
use mathlib.Core.Path.{◌≡◌, refl, sym, ap, ◌∙◌, subst}
use mathlib.Core.Bool.{true, false}
use Prim.Native.Nat.{ℕ, zero, suc, ◌+◌, ◌^◌, ◌<◌}
use native.Mathlib.Nat.{not-suc-le-zero}
use native.Mathlib.Omega.{arith}
use lib.IntN.{ℤ, pos, negsuc, neg_ℤ, nat_abs, suc_ℤ, ◌+ℤ◌, ◌-ℤ◌, +ℤ_one, +ℤ_idl, neg_ℤ-suc_ℤ}
use lib.Dec.{T, ltb→lt}
use lib.Signed.{mag, lt_z, non_neg}
use mir.Syntax.{w32}
use mir.Val.{to_z, of_z, Fits, SFits}
use mir.Facts.{to_z-of_z, Fits-nat_abs}

-- what is read back of a number
abbrev pub held : ℤ → ℤ
held z = to_z w32 (of_z w32 z)

pub record Turned (z : ℤ) : Type 0 where
  pub sum_fits : SFits w32 (held z +ℤ pos 1)
  pub turned_fits : SFits w32 (pos 0 -ℤ held (held z +ℤ pos 1))
  pub less : ℕ
  pub less_most : less < 2 ^ 31
  pub turned : held (pos 0 -ℤ held (held z +ℤ pos 1)) ≡ pos less
  pub size : nat_abs z ≡ less + 1

mag_up : (a : ℕ) → a < 2 ^ 31 → mag (suc_ℤ (negsuc a)) < 2 ^ 31
mag_up zero h = omega arith
mag_up (suc a) h = omega arith

turns_down : (a : ℕ) → SFits w32 (negsuc a) → Turned (negsuc a)
turns_down a f =
    let up : held (negsuc a) +ℤ pos 1 ≡ suc_ℤ (negsuc a) =
    ap (λ (z : ℤ). z +ℤ pos 1) (to_z-of_z f) ∙ +ℤ_one (negsuc a) in
    let up_fits : SFits w32 (suc_ℤ (negsuc a)) = record { sfits = mag_up a f.sfits } in
    let turned : pos 0 -ℤ held (held (negsuc a) +ℤ pos 1) ≡ pos a =
    ap (λ (z : ℤ). pos 0 -ℤ held z) up ∙ ap (λ (z : ℤ). pos 0 -ℤ z) (to_z-of_z up_fits) ∙ +ℤ_idl (neg_ℤ (suc_ℤ (negsuc a)))
    ∙ neg_ℤ-suc_ℤ (negsuc a) in
    let fits : SFits w32 (pos a) = record { sfits = f.sfits } in
    record {
      sum_fits = subst (SFits w32) (sym up) up_fits;
      turned_fits = subst (SFits w32) (sym turned) fits;
      less = a;
      less_most = f.sfits;
      turned = ap held turned ∙ to_z-of_z fits;
      size = omega arith;
    }

turns_below : (z : ℤ) → SFits w32 z → lt_z z (pos 0) ≡ true → Turned z
turns_below (pos n) f e = absurd (not-suc-le-zero (ltb→lt n 0 (subst T (sym e) tt)))
turns_below (negsuc a) f e = turns_down a f

pub turns : (z : ℤ) → SFits w32 z → lt_z (held z) (pos 0) ≡ true → Turned z
turns z f e = turns_below z f (sym (ap (λ (y : ℤ). lt_z y (pos 0)) (to_z-of_z f)) ∙ e)

-- a number that is not negative
not_below : (z : ℤ) → lt_z z (pos 0) ≡ false → T (non_neg z)
not_below (pos n) e = tt
not_below (negsuc a) e = subst T e tt

pub is_size : (z : ℤ) → SFits w32 z → lt_z (held z) (pos 0) ≡ false → T (non_neg (held z)) × Fits w32 (nat_abs (held z))
is_size z f e = (not_below (held z) e, Fits-nat_abs tt (subst (SFits w32) (sym (to_z-of_z f)) f))
