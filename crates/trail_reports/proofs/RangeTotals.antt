-- The totals of a range of lines: none, how large they are, and two ranges with the same lines and reports.
use Prim.Native.Nat.{ℕ, zero, suc, ◌+◌, ◌*◌, ◌≤◌, ◌<◌}
use native.Mathlib.Omega.{arith}
use mathlib.Core.Path.{◌≡◌, refl, ap, ap₂}
use mathlib.Core.Bool.{Bool, true, false, cond}
use lib.Dec.{eqb}
use Rattle.words.specs.Below.{count, total}
use Rattle.words.proofs.Bits.{value_lt}
use Rattle.words.proofs.Below.{any_cong, count_cong, total_cong}
use Rattle.trail.specs.Trail.{Trail}
use Rattle.trail.specs.Repeats.{equal_lines, is_repeat}
use Rattle.differential.specs.Unit.{unit}
use Rattle.differential.specs.Report.{Report}
use Rattle.trail_reports.specs.Lines.{line_report}
use Rattle.trail_reports.specs.Totals.{Sums, range_totals, RangesAreLocal, SmallReport}

pub same_sums : {i j w x c d : ℕ} → i ≡ j → w ≡ x → c ≡ d
    → ◌≡◌ {A = Sums} (record { impossible = i; weight = w; chains = c }) (record { impossible = j; weight = x; chains = d })
same_sums p q r k = record { impossible = p k; weight = q k; chains = r k }

-- what k small reports sum up to at most
pub record SmallSums (k : ℕ) (s : Sums) : Type 0 where
  pub impossible : s.impossible ≤ k
  pub weight : s.weight ≤ unit * 32 * k
  pub chains : s.chains ≤ 32 * k

module _ (t : Trail) (from : ℕ) where
  pub totals_none : record { impossible = 0; weight = 0; chains = 0 } ≡ range_totals t from 0
  unfolding range_totals count total
  totals_none = refl

  pub totals_small : (k : ℕ) → ((i : ℕ) → i < k → SmallReport (line_report t (from + i))) → SmallSums k (range_totals t from k)
  unfolding range_totals count total
  totals_small zero h = record { impossible = omega arith; weight = omega arith; chains = omega arith }
  totals_small (suc k) h =
      let before = totals_small k (λ i l. h i (omega arith)) in
      let here = h k (omega arith) in
      record {
        impossible = omega (arith, before.impossible, value_lt (eqb (line_report t (from + k)).number 0));
        weight = omega (arith, before.weight, here.weight, at_most (is_repeat t from k) (line_report t (from + k)).weight);
        chains = omega (arith, before.chains, here.chains, at_most (is_repeat t from k) (line_report t (from + k)).chains);
      }
    where
      at_most : (repeated : Bool) (n : ℕ) → cond repeated 0 n ≤ n
      at_most true n = omega arith
      at_most false n = omega arith

-- ---- two ranges with the same lines and reports

pub ranges_are_local : RangesAreLocal
unfolding range_totals is_repeat
ranges_are_local t from r start lines same reports =
    same_sums
    (count_cong lines _ _ (λ k l. ap (λ (z : Report). eqb z.number 0) (reports k l)))
    (total_cong lines _ _ (λ k l. ap₂ (λ (b : Bool) (z : Report). cond b 0 z.weight) (repeats k l) (reports k l)))
    (total_cong lines _ _ (λ k l. ap₂ (λ (b : Bool) (z : Report). cond b 0 z.chains) (repeats k l) (reports k l)))
  where
    repeats : (k : ℕ) → k < lines → is_repeat t from k ≡ is_repeat r start k
    repeats k l = any_cong k _ _ (λ i less. ap₂ equal_lines (same i (omega arith)) (same k l))
