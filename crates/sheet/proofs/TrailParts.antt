-- The parts of the trail that a sheet's bytes spell: inputs, lines and differences are the sheet's fields.
use Prim.Native.Nat.{ℕ, ◌+◌, ◌-◌, ◌<◌, ◌≤◌}
use native.Mathlib.Omega.{arith}
use mathlib.Core.Path.{◌≡◌, ap, ◌∙◌}
use mathlib.Core.List.{List}
use lib.ListN.{get_or}
use Rattle.words.proofs.Below.{length_tabulate, get_d_tabulate}
use Rattle.trail.specs.Trail.{input_count, line_count, no_line, line_at, difference_at}
use Rattle.trail.proofs.Differences.{difference_input, difference_line}
use Rattle.sheet.specs.Fields.{form_of, header_of, input_difference, record_of, line_of, trail_of}

module _ (s : List ℕ) where
  pub trail_inputs : input_count (trail_of s) ≡ (header_of s).inputs
  unfolding trail_of
  trail_inputs = length_tabulate (header_of s).inputs (input_difference (form_of s) s)

  pub trail_lines : line_count (trail_of s) ≡ (header_of s).lines
  unfolding trail_of
  trail_lines = length_tabulate (header_of s).lines (λ k. line_of (record_of (form_of s) s k))

  pub trail_input : (j : ℕ) → j < (header_of s).inputs → get_or (trail_of s).inputs j 0 ≡ input_difference (form_of s) s j
  unfolding trail_of
  trail_input j l = get_d_tabulate (header_of s).inputs (input_difference (form_of s) s) j 0 l

  pub trail_line : (k : ℕ) → k < (header_of s).lines → line_at (trail_of s) k ≡ line_of (record_of (form_of s) s k)
  unfolding trail_of line_at
  trail_line k l = get_d_tabulate (header_of s).lines (λ i. line_of (record_of (form_of s) s i)) k no_line l

  pub input_difference_lem : (j : ℕ) → j < (header_of s).inputs → difference_at (trail_of s) j ≡ input_difference (form_of s) s j
  input_difference_lem j l = difference_input (trail_of s) j (omega (arith, trail_inputs)) ∙ trail_input j l

  pub line_difference : (j : ℕ) → (header_of s).inputs ≤ j → difference_at (trail_of s) j ≡ (line_at (trail_of s) (j - (header_of s).inputs)).difference
  line_difference j l =
      ap (difference_at (trail_of s)) past ∙ difference_line (trail_of s) (j - (header_of s).inputs)
    where
      past : j ≡ input_count (trail_of s) + (j - (header_of s).inputs)
      past = omega (arith, trail_inputs)
