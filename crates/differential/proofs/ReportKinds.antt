-- A line's report, and the difference that it is given, by the way in which its kind is reported.
use mathlib.Core.Path.{◌≡◌, refl, ap, ◌∙◌}
use mathlib.Core.Bool.{Bool, true, false, false≢true, true≢false}
use Rattle.trail.specs.Kinds.{kind_of}
use Rattle.differential.specs.declared.Differential.{Differential}
use Rattle.differential.specs.Constant.{constant_fitting}
use Rattle.differential.specs.Report.{certain_if, constant_report, Reporting, reporting, report_by, report_of, given_by, given_difference}
use Rattle.differential.specs.Report.Reporting.{linear, two_words, constant, none}
use Rattle.differential.proofs.Formula.{fitting_constant}

module _ (d : Differential) where
  pub report_by_lem : {p : Reporting} → reporting (kind_of d.line.kind) ≡ p → report_of d ≡ report_by p d
  unfolding report_of
  report_by_lem how = ap (λ (p : Reporting). report_by p d) how

  -- with N by its formula
  pub constant_report_lem : reporting (kind_of d.line.kind) ≡ constant
      → report_of d
      ≡ constant_report d.width d.line.constant d.first d.line.difference
      (constant_fitting d.width d.line.constant d.first d.line.difference)
  constant_report_lem how =
      report_by_lem how
      ∙ ap (constant_report d.width d.line.constant d.first d.line.difference) (fitting_constant d how)

abbrev pub is_linear : Reporting → Bool
is_linear (linear given) = true
is_linear (two_words sum) = false
is_linear constant = false
is_linear none = false

-- a linear line is certain by the difference that it is given
pub linear_report : (d : Differential) → is_linear (reporting (kind_of d.line.kind)) ≡ true
    → report_of d ≡ certain_if d.line.difference (given_difference d)
unfolding report_of given_difference
linear_report d is = at (reporting (kind_of d.line.kind)) is
  where
    at : (p : Reporting) → is_linear p ≡ true → report_by p d ≡ certain_if d.line.difference (given_by p d)
    at (linear given) e = refl
    at (two_words sum) e = absurd (false≢true e)
    at constant e = absurd (false≢true e)
    at none e = absurd (false≢true e)

-- a line that is not linear is given no difference
pub none_given : (p : Reporting) → is_linear p ≡ false → (d : Differential) → given_by p d ≡ 0
none_given (linear given) e d = absurd (true≢false e)
none_given (two_words sum) e d = refl
none_given constant e d = refl
none_given none e d = refl
