-- Document 01's printed formula for adding a constant ("Line reports"): with u and v the differences of the operand and of the
-- result, N is the number of x below 2 ^ n for which ((x XOR u) + a) XOR (x + a) is v, sums modulo 2 ^ n.
use mathlib.Core.Path.{◌≡◌, ap, ap₂}
use Prim.Native.Nat.{ℕ, ◌^◌}
use lib.Bits.{bit_xor}
use lib.Dec.{eqb}
use Rattle.words.specs.Words.{sum_modulo}
use Rattle.words.proofs.Below.{count_cong}
use Rattle.trail.specs.Kinds.{kind_of}
use Rattle.differential.specs.declared.Differential.{Differential}
use Rattle.differential.specs.Fits.{fits, fitting}
use Rattle.differential.specs.Constant.{constant_fits, constant_fitting}
use Rattle.differential.specs.Report.{reporting}
use Rattle.differential.specs.Report.Reporting.{constant}
use Rattle.differential.proofs.KindRows.{says}

module _ (d : Differential) (how : reporting (kind_of d.line.kind) ≡ constant) where
  pub fits_constant : (x y : ℕ)
      → fits d x y ≡ constant_fits d.width d.line.constant d.first d.line.difference x
  unfolding fits sum_modulo
  fits_constant x y =
      ap (λ (z : ℕ). eqb z d.line.difference)
      (ap₂ bit_xor (says d how (bit_xor x d.first) (bit_xor y d.second)) (says d how x y))

  pub fitting_constant : fitting d ≡ constant_fitting d.width d.line.constant d.first d.line.difference
  unfolding fitting
  fitting_constant =
      count_cong (2 ^ d.width) (λ x. fits d x 0)
      (constant_fits d.width d.line.constant d.first d.line.difference)
      (λ x l. fits_constant x 0)
