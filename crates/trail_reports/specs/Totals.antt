-- The totals of a sheet (document 01, "Line reports"; document 02, W-202), as those of a range of lines: the sheet's is the range of all.
use Rattle.std.specs.Prelude.{ℕ, ◌+◌, ◌*◌, ◌<◌, ◌≤◌, ◌^◌, ◌≡◌, cond, eqb}
use Rattle.words.specs.Words.{value}
use Rattle.words.specs.Below.{count, total}
use Rattle.trail.specs.Trail.{Trail, line_count, line_at}
use Rattle.trail.specs.Repeats.{is_repeat}
use Rattle.differential.specs.Unit.{unit}
use Rattle.differential.specs.Report.{Report}
use Rattle.trail_reports.specs.Lines.{line_report}
use Rattle.trail_reports.specs.declared.Totals.{Totals}

-- impossible lines; the sum of the others' weights in sixteenths (halves times 16); chains
pub record Sums : Type 0 where
  pub impossible : ℕ
  pub weight : ℕ
  pub chains : ℕ

-- Of a number of lines from line `from` on. A line that repeats an earlier one of them adds nothing to weight and chains; a copy of an
-- impossible line still counts among the impossible lines. An impossible line's weight and chains are 0.
unfoldable pub range_totals : Trail → ℕ → ℕ → Sums
range_totals t from lines = record {
  impossible = count lines (λ k. eqb (line_report t (from + k)).number 0);
  weight = total lines (λ k. cond (is_repeat t from k) 0 (line_report t (from + k)).weight);
  chains = total lines (λ k. cond (is_repeat t from k) 0 (line_report t (from + k)).chains);
}

-- the sheet's totals: the range of all lines
abbrev pub sheet_totals : Trail → Sums
sheet_totals t = range_totals t 0 (line_count t)

-- A range's totals are worked out from its own lines and their reports: neither the lines before it nor its place matter.
abbrev pub RangesAreLocal : Type 0
RangesAreLocal =
    (t : Trail) (from : ℕ) (r : Trail) (start lines : ℕ)
    → ((k : ℕ) → k < lines → line_at t (from + k) ≡ line_at r (start + k))
    → ((k : ℕ) → k < lines → line_report t (from + k) ≡ line_report r (start + k))
    → range_totals t from lines ≡ range_totals r start lines

-- what the code's totals mean
abbrev pub sums_of : Totals → Sums
sums_of s = record { impossible = s.impossible; weight = s.weight.0; chains = s.chains }

-- ---- what inner functions of the code cite

-- the totals with one report more
abbrev pub with_report : Sums → Report → Sums
with_report s r = record {
  impossible = s.impossible + value (eqb r.number 0);
  weight = s.weight + r.weight;
  chains = s.chains + r.chains;
}

-- a report's values at widths up to 32
pub record SmallReport (r : Report) : Type 0 where
  pub weight : r.weight ≤ unit * 32
  pub chains : r.chains ≤ 32
  pub fitting : r.fitting ≤ 2 ^ 32
