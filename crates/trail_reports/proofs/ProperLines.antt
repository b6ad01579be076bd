-- The differential of each line of an accepted sheet is a proper one.
use Prim.Native.Nat.{ℕ, ◌+◌, ◌-◌, ◌^◌, ◌<◌, ◌≤◌}
use native.Mathlib.Decide.{dec_lt}
use native.Mathlib.Omega.{arith}
use mathlib.Core.Path.{◌≡◌, sym, ap, subst, ◌∙◌}
use mathlib.Core.List.{List}
use Rattle.trail.specs.Trail.{Trail, input_count, line_count, line_at, difference_at}
use Rattle.trail.specs.WellFormed.{WellFormed}
use Rattle.trail.proofs.Differences.{difference_input, difference_line}
use Rattle.trail.proofs.Runs.{second_below}
use Rattle.differential.specs.declared.Differential.{Differential}
use Rattle.differential.specs.Demand2.{Proper}
use Rattle.sheet.specs.declared.Header.{Header}
use Rattle.sheet.specs.Fields.{trail_of}
use Rattle.sheet.specs.Facts.{SheetRead}
use Rattle.trail_reports.specs.Lines.{differential_of}

module _ {t : Trail} (good : WellFormed t) where
  -- every word's difference is a word
  pub difference_word : (j : ℕ) → j < input_count t + line_count t → difference_at t j < 2 ^ t.width
  difference_word j l = at (dec_lt j (input_count t))
    where
      at : Dec (j < input_count t) → difference_at t j < 2 ^ t.width
      at (yes less) = subst (λ (d : ℕ). d < 2 ^ t.width) (sym (difference_input t j less)) (good.inputs_words j less)
      at (no more) =
          subst (λ (d : ℕ). d < 2 ^ t.width) (sym (ap (difference_at t) past ∙ difference_line t (j - input_count t)))
          (good.lines_right (j - input_count t) (omega arith)).difference_word
        where
          past : j ≡ input_count t + (j - input_count t)
          past = omega arith

  pub proper_line : (k : ℕ) → k < line_count t → Proper (differential_of t k)
  unfolding differential_of
  proper_line k l = record {
    width_least = good.width_least;
    first_word = difference_word (line_at t k).first (omega (arith, right.first_earlier));
    second_word = difference_word (line_at t k).second (omega (arith, second_below right));
    word = input_count t + k;
    line_right = right;
  }
    where
      right : Rattle.trail.specs.WellFormed.WellFormedLine t.width (input_count t + k) (line_at t k)
      right = good.lines_right k l

-- what a report asks of the differential of a sheet's line: it is proper, and at most 32 bits wide
pub report_asks : {s : List ℕ} {header : Header} → SheetRead s header → (k : ℕ) → k < header.lines → {d : Differential}
    → d ≡ differential_of (trail_of s) k → Proper d × (d.width ≤ 32)
unfolding differential_of
report_asks read k less is =
    let width = ap (λ (d : Differential). d.width) is in
    (subst Proper (sym is) (proper_line read.well_formed k (omega arith)), omega (arith, read.width, read.width_most))
