-- Totals by computation: a sheet's, and those of a range whose first line repeats a line before it.
use mathlib.Core.Path.{◌≡◌, refl}
use mathlib.Core.Bool.{xor}
use mathlib.Core.List.{[], ◌∷◌}
use Rattle.words.specs.Words.{bit, bit_below, from_bits, sum_modulo}
use Rattle.words.specs.Below.{any, count, total}
use Rattle.trail.specs.Kinds.{kind_of, makes}
use Rattle.trail.specs.Trail.{Trail, line_at, difference_at}
use Rattle.trail.specs.Repeats.{equal_lines, is_repeat}
use Rattle.differential.specs.Fits.{fits, fitting}
use Rattle.differential.specs.TwoWords.{clashes, words_impossible, words_weight}
use Rattle.differential.specs.Constant.{halvings, quiet, is_chain, chains, chain_t, chain_p}
use Rattle.differential.specs.Logarithm.{highest_one_below, highest_one, next_four, logarithm}
use Rattle.differential.specs.Weight.{chain_cost, constant_weight}
use Rattle.differential.specs.Report.{report_of}
use Rattle.trail_reports.specs.Lines.{differential_of, line_report}
use Rattle.trail_reports.specs.Totals.{Sums, range_totals, sheet_totals}

-- n is 4, the input differences are 4 and 1. Lines 0 and 1 add 3 to word 0 and state different differences (document 01, "Cases at
-- n = 4": weights 32 and 8, a chain each); line 3 adds words 0 and 1 (2 bits); line 4 copies word 0 and is impossible. Lines 2 and 6
-- are line 1 again, and line 5 is line 4 again.
unfoldable pub copies : Trail
copies = record {
  width = 4;
  inputs = 4 ∷ 1 ∷ [];
  lines =
      record { kind = 6; amount = 0; first = 0; second = 0; constant = 3; difference = 4 }
      ∷ record { kind = 6; amount = 0; first = 0; second = 0; constant = 3; difference = 12 }
      ∷ record { kind = 6; amount = 0; first = 0; second = 0; constant = 3; difference = 12 }
      ∷ record { kind = 5; amount = 0; first = 0; second = 1; constant = 0; difference = 5 }
      ∷ record { kind = 2; amount = 0; first = 0; second = 0; constant = 0; difference = 5 }
      ∷ record { kind = 2; amount = 0; first = 0; second = 0; constant = 0; difference = 5 }
      ∷ record { kind = 6; amount = 0; first = 0; second = 0; constant = 3; difference = 12 }
      ∷ [];
}

pub record CopiesCounted : Type 0 where
  -- both impossible lines; lines 0, 1 and 3 are charged
  pub of_the_sheet : sheet_totals copies ≡ record { impossible = 2; weight = 72; chains = 2 }
  -- of lines 2 to 6, lines 2 and 3 are charged: the earlier copy of line 2 lies outside
  pub of_a_range : range_totals copies 2 5 ≡ record { impossible = 2; weight = 40; chains = 1 }

pub copies_counted : CopiesCounted
unfolding copies range_totals equal_lines is_repeat line_report differential_of line_at difference_at report_of kind_of fitting fits makes sum_modulo
    any count total bit bit_below from_bits xor clashes words_impossible words_weight
    halvings quiet is_chain chains chain_t chain_p highest_one_below highest_one next_four logarithm chain_cost constant_weight
copies_counted = record { of_the_sheet = refl; of_a_range = refl }
