-- Demand 2 for every line by itself, by the way in which its kind is reported.
use mathlib.Core.Path.{◌≡◌, refl, sym, ◌∙◌}
use mathlib.Core.Logic.{◌≢◌}
use mathlib.Core.Bool.{Bool, true, false, cond}
use Prim.Native.Nat.{ℕ, ◌-◌, ◌*◌, ◌^◌, ◌<◌, ◌≤◌}
use native.Mathlib.Decide.{ℕ_discrete}
use native.Mathlib.Omega.{arith}
use borrow.Author.Tests.{eq-eqb, ne_eqb}
use lib.Dec.{eqb}
use Rattle.words.proofs.Below.{count_zero→none}
use Rattle.words.proofs.Pairs.{pairs_zero→none}
use Rattle.trail.specs.Kinds.{kind_of, makes}
use Rattle.differential.specs.declared.Differential.{Differential}
use Rattle.differential.specs.Fits.{fits, fitting, fitting_pairs}
use Rattle.differential.specs.TwoWords.{words_impossible, words_weight}
use Rattle.differential.specs.Constant.{constant_fits, chains}
use Rattle.differential.specs.Weight.{constant_weight}
use Rattle.differential.specs.Report.{impossible, halves, certain_if, words_report, constant_report, Addition, Reporting, reporting, report_by, report_of}
use Rattle.differential.specs.Report.Reporting.{linear, two_words, constant, none}
use Rattle.differential.specs.Demand2.{Proper, CountedRight, RightReport, EveryReportIsRight}
use Rattle.differential.proofs.Formula.{fits_constant, fitting_constant}
use Rattle.differential.proofs.TwoWords.{pairs_number, weight_less}
use Rattle.differential.proofs.Linear.{linear_fits}
use Rattle.differential.proofs.Turning.{FitsAs}
use Rattle.differential.proofs.KindRows.{says}
use Rattle.differential.proofs.Weights.{constant_right_lem}
use Rattle.differential.proofs.RightReports.{impossible_right, certain_right, halves_right, counted_right}

module _ (d : Differential) (proper : Proper d) where
  linear_right : {given : Differential → ℕ} → reporting (kind_of d.line.kind) ≡ linear given
      → RightReport d (certain_if d.line.difference (given d))
  linear_right {given} how = at (ℕ_discrete d.line.difference (given d))
    where
      one_for_all : (x y : ℕ) → x < 2 ^ d.width → y < 2 ^ d.width → fits d x y ≡ eqb (given d) d.line.difference
      one_for_all = linear_fits proper (says d how proper)

      at : Dec (d.line.difference ≡ given d) → RightReport d (certain_if d.line.difference (given d))
      at (yes same) =
          rw (eq-eqb d.line.difference (given d) same)
          (certain_right d how (λ x y hx hy. one_for_all x y hx hy ∙ eq-eqb (given d) d.line.difference (sym same)))
      at (no other) =
          rw (ne_eqb d.line.difference (given d) other)
          (impossible_right d
          (λ x y hx hy. one_for_all x y hx hy ∙ ne_eqb (given d) d.line.difference (λ s. other (sym s))))

  words_right : {sum : Differential → Addition} → reporting (kind_of d.line.kind) ≡ two_words sum
      → RightReport d (words_report d.width (sum d).first (sum d).second (sum d).result)
  unfolding fits fitting_pairs
  words_right {sum} how =
      at (words_impossible n α β γ) (like.as_many ∙ pairs_number n α β γ least like.result_word)
    where
      n : ℕ
      n = d.width

      α : ℕ
      α = (sum d).first

      β : ℕ
      β = (sum d).second

      γ : ℕ
      γ = (sum d).result

      w : ℕ
      w = words_weight n α β γ

      like : FitsAs d (makes n d.line) (sum d)
      like = says d how proper

      least : 1 ≤ n
      least = omega (arith, proper.width_least)

      at : (t : Bool) → fitting_pairs d ≡ cond t 0 (2 ^ (2 * n - w)) → RightReport d (cond t impossible (halves w))
      at true pairs = impossible_right d (pairs_zero→none n (fits d) pairs)
      at false pairs = halves_right d how w (weight_less n α β γ least) pairs

  constant_report_right : reporting (kind_of d.line.kind) ≡ constant
      → RightReport d (constant_report d.width d.line.constant d.first d.line.difference (fitting d))
  constant_report_right how = at (ℕ_discrete (fitting d) 0)
    where
      n : ℕ
      n = d.width

      a : ℕ
      a = d.line.constant

      u : ℕ
      u = d.first

      v : ℕ
      v = d.line.difference

      right : fitting d ≢ 0 → CountedRight n (fitting d) (constant_weight n a u v) (chains n u v)
      right some =
          rw (fitting_constant d how) (constant_right_lem n a u v proper.line_right.difference_word (omega (arith, fitting_constant d how)))

      at : Dec (fitting d ≡ 0) → RightReport d (constant_report n a u v (fitting d))
      at (yes zero) =
          rw (eq-eqb (fitting d) 0 zero)
          (impossible_right d
          (λ x y hx hy.
          fits_constant d how x y ∙ count_zero→none (2 ^ n) (constant_fits n a u v) (sym (fitting_constant d how) ∙ zero) x hx))
      at (no some) =
          rw (ne_eqb (fitting d) 0 some) (counted_right d how (constant_weight n a u v) (chains n u v) (right some))

pub every_report_is_right : EveryReportIsRight
unfolding report_of
every_report_is_right d proper = at (reporting (kind_of d.line.kind)) refl
  where
    at : (p : Reporting) → reporting (kind_of d.line.kind) ≡ p → RightReport d (report_by p d)
    at (linear given) how = linear_right d proper how
    at (two_words sum) how = words_right d proper how
    at constant how = constant_report_right d proper how
    at none how = absurd (says d how proper)
