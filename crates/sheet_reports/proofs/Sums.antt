-- One line more in the totals, case by case as the code adds it.
use Prim.Native.Nat.{ℕ, ◌+◌, ◌*◌}
use native.Mathlib.Nat.{add-zero}
use native.Mathlib.Numerals.{add-one}
use native.Mathlib.Omega.{arith}
use mathlib.Core.Path.{◌≡◌, refl, sym, ap, subst, ◌∙◌}
use mathlib.Core.Bool.{Bool, true, false, ◌&&◌, cond, and-eq-true_iff, true≢false}
use borrow.Author.Tests.{ltb-true, ne_eqb}
use lib.Dec.{eqb, ltb}
use Rattle.words.specs.Below.{count, total}
use Rattle.trail.specs.Trail.{Trail}
use Rattle.trail.specs.Repeats.{is_repeat}
use Rattle.differential.specs.Unit.{unit}
use Rattle.differential.specs.Report.{Report, impossible, certain, halves, counted, report_means}
use Rattle.differential.specs.declared.LineReport.{LineReport}
use Rattle.differential.specs.declared.LineReport.TheVariants.{Impossible, Certain, Halves, Counted}
use Rattle.charged_lines.specs.Charged.{costs}
use Rattle.trail_reports.specs.Lines.{line_report}
use Rattle.trail_reports.specs.Totals.{Sums, range_totals, with_report}
use Rattle.trail_reports.proofs.RangeTotals.{same_sums}

module _ (s : Sums) where
  pub with_impossible : record { impossible = s.impossible + 1; weight = s.weight; chains = s.chains } ≡ with_report s impossible
  with_impossible = same_sums refl (sym (add-zero s.weight)) (sym (add-zero s.chains))

  pub with_certain : s ≡ with_report s certain
  with_certain = same_sums (sym (add-zero s.impossible)) (sym (add-zero s.weight)) (sym (add-zero s.chains))

  pub with_halves : (bits : ℕ) {cost : ℕ} → cost ≡ unit * bits
      → record { impossible = s.impossible; weight = s.weight + cost; chains = s.chains } ≡ with_report s (halves bits)
  with_halves bits e = same_sums (sym (add-zero s.impossible)) (ap (λ (w : ℕ). s.weight + w) e) (sym (add-zero s.chains))

  pub with_counted : (weight c n : ℕ)
      → record { impossible = s.impossible; weight = s.weight + weight; chains = s.chains + c } ≡ with_report s (counted weight c n)
  with_counted weight c n = same_sums (sym (add-zero s.impossible)) refl refl

-- ---- a line more

-- a report with neither halves nor a count has no weight and no chains
pub costs_nothing : (r : LineReport) → costs (report_means r) ≡ false → ((report_means r).weight ≡ 0) × ((report_means r).chains ≡ 0)
costs_nothing Impossible e = (refl, refl)
costs_nothing Certain e = (refl, refl)
costs_nothing (Halves _) e = absurd (true≢false e)
costs_nothing (Counted _ _ _) e = absurd (true≢false e)

module _ (t : Trail) (from : ℕ) where
  -- a line more that costs something and is a repeat
  pub totals_repeat : (k : ℕ) → (costs (line_report t (from + k)) && is_repeat t from k) ≡ true
      → range_totals t from k ≡ range_totals t from (k + 1)
  unfolding range_totals count total
  totals_repeat k e =
      let both = (and-eq-true_iff (costs (line_report t (from + k))) (is_repeat t from k)).0 e in
      rw (add-one, both.1, number (line_report t (from + k)).number both.0)
      (same_sums (sym (add-zero _)) (sym (add-zero _)) (sym (add-zero _)))
    where
      number : (n : ℕ) → ltb 1 n ≡ true → eqb n 0 ≡ false
      number n e = ne_eqb n 0 (λ z. omega (arith, ltb-true 1 n e))

  -- any other line more
  pub totals_next : (k : ℕ) (r : LineReport) → report_means r ≡ line_report t (from + k) → (costs (line_report t (from + k)) && is_repeat t from k) ≡ false
      → with_report (range_totals t from k) (line_report t (from + k)) ≡ range_totals t from (k + 1)
  unfolding range_totals count total
  totals_next k r means e =
      rw add-one (same_sums refl (ap (λ (w : ℕ). (range_totals t from k).weight + w) charged.0) (ap (λ (c : ℕ). (range_totals t from k).chains + c) charged.1))
    where
      charged : ((line_report t (from + k)).weight ≡ cond (is_repeat t from k) 0 (line_report t (from + k)).weight)
          × ((line_report t (from + k)).chains ≡ cond (is_repeat t from k) 0 (line_report t (from + k)).chains)
      charged = at (is_repeat t from k) (costs (line_report t (from + k))) refl e
        where
          at : (repeated dear : Bool) → costs (line_report t (from + k)) ≡ dear → (dear && repeated) ≡ false
              → ((line_report t (from + k)).weight ≡ cond repeated 0 (line_report t (from + k)).weight) × ((line_report t (from + k)).chains ≡ cond repeated 0 (line_report t (from + k)).chains)
          at false dear d f = (refl, refl)
          at true true d f = absurd (true≢false f)
          at true false d f = subst (λ (z : Report). (z.weight ≡ 0) × (z.chains ≡ 0)) means (costs_nothing r (ap costs means ∙ d))
