-- Reports as text, by computation: document 01's example, a trail with all four reports, and numbers of several digits.
use mathlib.Core.Path.{◌≡◌, refl, ap, ◌∙◌}
use mathlib.Core.Bool.{xor}
use mathlib.Core.List.{[], ◌∷◌, map}
use Prim.Native.Nat.{◌^◌}
use Rattle.words.specs.Words.{bit, bit_below, from_bits, sum_modulo}
use Rattle.words.specs.Below.{any, count, total, concat}
use Rattle.trail.specs.Kinds.{kind_of, makes}
use Rattle.trail.specs.Trail.{Trail, line_at, difference_at}
use Rattle.trail.specs.Repeats.{equal_lines, is_repeat}
use Rattle.decimal.specs.Ascii.{ascii}
use Rattle.decimal.specs.Decimal.{digits, decimal, spaced}
use Rattle.differential.specs.Fits.{fits, fitting}
use Rattle.differential.specs.TwoWords.{clashes, words_impossible, words_weight}
use Rattle.differential.specs.Constant.{halvings, quiet, is_chain, chains, chain_t, chain_p}
use Rattle.differential.specs.Logarithm.{highest_one_below, highest_one, next_four, logarithm}
use Rattle.differential.specs.Weight.{chain_cost, constant_weight}
use Rattle.differential.specs.Report.{impossible, certain, halves, counted, report_of}
use Rattle.sheet.specs.Fields.{trail_of}
use Rattle.trail_reports.specs.Lines.{differential_of, line_report}
use Rattle.trail_reports.specs.Totals.{range_totals}
use Rattle.sheet_example.specs.Example.{example_sheet}
use Rattle.sheet_example.proofs.Example.{example_trail}
use Rattle.report_file.specs.Text.{name_text, line_text, totals_text, report_text}

-- Document 01's example report, of its example sheet ("The programs"): n is 2, the one input difference 1, and the one line adds the
-- constant 1 to word 0 and states the difference 3.
example_text : report_text (record {
  width = 2;
  inputs = 1 ∷ [];
  lines = record { kind = 6; amount = 0; first = 0; second = 0; constant = 1; difference = 3 } ∷ [];
}) ≡ ascii "0 counted 0 1 4\ntotal 0 0 1\n"
unfolding report_text concat line_text totals_text name_text ascii spaced decimal digits
    range_totals is_repeat line_report differential_of line_at difference_at report_of kind_of fitting fits makes sum_modulo
    any count total bit bit_below from_bits xor
    halvings quiet is_chain chains chain_t chain_p highest_one_below highest_one next_four logarithm chain_cost constant_weight
example_text = refl

pub example_report : report_text (trail_of example_sheet) ≡ ascii "0 counted 0 1 4\ntotal 0 0 1\n"
example_report = ap report_text example_trail ∙ example_text

-- n is 4, the input differences are 4 and 1. Lines 0 and 1 copy word 0, line 2 adds words 0 and 1, line 3 adds 3 to word 0; line 4 is
-- line 3 again, which adds nothing to the totals.
unfoldable pub made_up : Trail
made_up = record {
  width = 4;
  inputs = 4 ∷ 1 ∷ [];
  lines =
      record { kind = 2; amount = 0; first = 0; second = 0; constant = 0; difference = 5 }
      ∷ record { kind = 2; amount = 0; first = 0; second = 0; constant = 0; difference = 4 }
      ∷ record { kind = 5; amount = 0; first = 0; second = 1; constant = 0; difference = 5 }
      ∷ record { kind = 6; amount = 0; first = 0; second = 0; constant = 3; difference = 12 }
      ∷ record { kind = 6; amount = 0; first = 0; second = 0; constant = 3; difference = 12 }
      ∷ [];
}

pub made_up_report : report_text made_up
    ≡ ascii "0 impossible 0 0 0\n1 certain 0 0 0\n2 halves 32 0 0\n3 counted 8 1 12\n4 counted 8 1 12\ntotal 1 40 1\n"
unfolding made_up report_text concat line_text totals_text name_text ascii spaced decimal digits
    range_totals equal_lines is_repeat line_report differential_of line_at difference_at report_of kind_of fitting fits makes sum_modulo
    any count total bit bit_below from_bits xor clashes words_impossible words_weight
    halvings quiet is_chain chains chain_t chain_p highest_one_below highest_one next_four logarithm chain_cost constant_weight
made_up_report = refl

-- a line's number, weight, chains and N of several digits, in each of the four reports
pub line_examples : map (line_text 12) (impossible ∷ certain ∷ halves 31 ∷ counted 107 10 (2 ^ 32) ∷ [])
    ≡ map ascii ("12 impossible 0 0 0\n" ∷ "12 certain 0 0 0\n" ∷ "12 halves 496 0 0\n" ∷ "12 counted 107 10 4294967296\n" ∷ [])
unfolding line_text name_text ascii spaced decimal digits
line_examples = refl

-- no impossible line, and a weight and chains of three digits
pub totals_example : totals_text (record { impossible = 0; weight = 512; chains = 100 }) ≡ ascii "total 0 512 100\n"
unfolding totals_text ascii spaced decimal digits
totals_example = refl
