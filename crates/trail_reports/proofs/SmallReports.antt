-- A report's values at widths up to 32.
use Prim.Native.Nat.{ℕ, ◌-◌, ◌^◌, ◌<◌, ◌≤◌}
use native.Mathlib.Omega.{arith}
use native.Mathlib.Nat.{le_trans}
use mathlib.Core.Path.{◌≡◌, refl, subst}
use mathlib.Core.Bool.{Bool, true, false, not, cond}
use borrow.Author.Tests.{eqb-false}
use lib.Dec.{eqb}
use lib.Pow.{pow_mono}
use Rattle.words.specs.Words.{bit}
use Rattle.words.proofs.Below.{count_le}
use Rattle.trail.specs.Kinds.{kind_of}
use Rattle.differential.specs.declared.Differential.{Differential}
use Rattle.differential.specs.Fits.{fits, fitting}
use Rattle.differential.specs.TwoWords.{all_equal, words_impossible, words_weight}
use Rattle.differential.specs.Constant.{chains, constant_fitting}
use Rattle.differential.specs.Weight.{constant_weight}
use Rattle.differential.specs.Report.{Report, impossible, certain, halves, counted, Reporting, reporting, report_by, report_of}
use Rattle.differential.specs.Report.Reporting.{linear, two_words, constant, none}
use Rattle.differential.specs.Demand2.{Proper, CountedRight}
use Rattle.differential.proofs.ChainLaws.{chains_le}
use Rattle.differential.proofs.Formula.{fitting_constant}
use Rattle.differential.proofs.Weights.{constant_right_lem}
use Rattle.trail_reports.specs.Totals.{SmallReport}

impossible_small : SmallReport impossible
impossible_small = record { weight = omega arith; chains = omega arith; fitting = omega arith }

certain_small : SmallReport certain
certain_small = record { weight = omega arith; chains = omega arith; fitting = omega arith }

either_small : (t : Bool) {r s : Report} → SmallReport r → SmallReport s → SmallReport (cond t r s)
either_small true p q = p
either_small false p q = q

words_small : (n α β γ : ℕ) → n ≤ 32 → SmallReport (halves (words_weight n α β γ))
unfolding words_weight
words_small n α β γ h = record {
  weight = omega (arith, count_le (n - 1) (λ i. not (all_equal (bit α i) (bit β i) (bit γ i))));
  chains = omega arith;
  fitting = omega arith;
}

module _ (d : Differential) (proper : Proper d) (narrow : d.width ≤ 32) where
  fitting_small : fitting d ≤ 2 ^ 32
  unfolding fitting
  fitting_small = le_trans (count_le (2 ^ d.width) (λ x. fits d x 0)) (pow_mono narrow)

  constant_small : (how : reporting (kind_of d.line.kind) ≡ constant) (t : Bool) → eqb (fitting d) 0 ≡ t
      → SmallReport (cond t impossible (counted (constant_weight d.width d.line.constant d.first d.line.difference) (chains d.width d.first d.line.difference) (fitting d)))
  constant_small how true e = impossible_small
  constant_small how false e = record {
    weight = omega (arith, right.weight_most);
    chains = le_trans (chains_le d.width d.first d.line.difference) narrow;
    fitting = fitting_small;
  }
    where
      n : ℕ
      n = d.width

      some : 0 < constant_fitting n d.line.constant d.first d.line.difference
      some = subst (λ (z : ℕ). 0 < z) (fitting_constant d how) (above (fitting d) (eqb-false (fitting d) 0 e))
        where
          above : (z : ℕ) → (z ≡ 0 → ⊥) → 0 < z
          above z h = omega arith

      right : CountedRight n (constant_fitting n d.line.constant d.first d.line.difference) (constant_weight n d.line.constant d.first d.line.difference) (chains n d.first d.line.difference)
      right = constant_right_lem n d.line.constant d.first d.line.difference proper.line_right.difference_word some

  pub small_report : SmallReport (report_of d)
  unfolding report_of
  small_report = at (reporting (kind_of d.line.kind)) refl
    where
      at : (p : Reporting) → reporting (kind_of d.line.kind) ≡ p → SmallReport (report_by p d)
      at (linear given) how = either_small (eqb d.line.difference (given d)) certain_small impossible_small
      at (two_words sum) how =
          either_small (words_impossible d.width (sum d).first (sum d).second (sum d).result) impossible_small
          (words_small d.width (sum d).first (sum d).second (sum d).result narrow)
      at constant how = constant_small how (eqb (fitting d) 0) refl
      at none how = impossible_small
