-- Demand 2 for one line: what a report says of the operand values that fit.
use Rattle.std.specs.Prelude.{ℕ, ◌+◌, ◌-◌, ◌*◌, ◌^◌, ◌<◌, ◌≤◌, ◌≡◌, ◌↔◌, ◌⊎◌, true, false}
use Rattle.trail.specs.WellFormed.{WellFormedLine}
use Rattle.trail.specs.Kinds.{Kind, kind_of}
use Rattle.trail.specs.Kinds.Kind.{xorWords, xorConstant, rotatesLeft, rotatesRight, addWords, addConstant, shiftsLeft, shiftsRight, subtractWords, unknown}
use Rattle.differential.specs.declared.Differential.{Differential}
use Rattle.differential.specs.Fits.{fits, fitting, fitting_pairs}
use Rattle.differential.specs.Unit.{unit, slack}
use Rattle.differential.specs.Report.{Report, report_of}

-- the differences are words of the line's width, and the line is well-formed
pub record Proper (d : Differential) : Type 0 where
  pub width_least : 2 ≤ d.width
  pub first_word : d.first < 2 ^ d.width
  pub second_word : d.second < 2 ^ d.width
  pub word : ℕ
  pub line_right : WellFormedLine d.width word d.line

-- the exact number N of fitting words; its weight w in sixteenths and chain count c obey 2^(16n-w) <= N^16 <= 2^(16n-w+3c)
pub record CountedRight (n N w c : ℕ) : Type 0 where
  pub some : 0 < N
  pub weight_most : w ≤ unit * n
  pub low : 2 ^ (unit * n - w) ≤ N ^ unit
  pub high : N ^ unit ≤ 2 ^ (unit * n - w + slack * c)

-- w whole bits where 2 ^ (2n - w) pairs fit
pub record HalvesRight (n pairs weight : ℕ) : Type 0 where
  pub bits : ℕ
  pub weight_is : weight ≡ unit * bits
  pub bits_less : bits < n
  pub pairs_fit : pairs ≡ 2 ^ (2 * n - bits)

-- The report number that a kind's lines have where they are not impossible. Kinds 1 to 4 and the shifts are certain; kinds 5 and 9 are halves, never
-- certain; kind 6 is counted, never certain. An unknown kind has none.
abbrev pub possible_number : Kind → ℕ
possible_number xorWords = 1
possible_number xorConstant = 1
possible_number rotatesLeft = 1
possible_number rotatesRight = 1
possible_number addWords = 2
possible_number addConstant = 3
possible_number shiftsLeft = 1
possible_number shiftsRight = 1
possible_number subtractWords = 2
possible_number unknown = 0

-- Impossible exactly when no operand values with the stated differences give the stated result difference; certain only when all
-- do; halves and counted as above; and a kind's reports are impossible or have the kind's own number.
pub record RightReport (d : Differential) (r : Report) : Type 0 where
  pub impossible_exactly : (r.number ≡ 0) ↔ ((x y : ℕ) → x < 2 ^ d.width → y < 2 ^ d.width → fits d x y ≡ false)
  pub certain_fits : r.number ≡ 1 → (x y : ℕ) → x < 2 ^ d.width → y < 2 ^ d.width → fits d x y ≡ true
  pub halves_right : r.number ≡ 2 → HalvesRight d.width (fitting_pairs d) r.weight
  pub counted_right : r.number ≡ 3 → CountedRight d.width (fitting d) r.weight r.chains
  pub counted_fitting : r.number ≡ 3 → r.fitting ≡ fitting d
  pub kind_number : (r.number ≡ 0) ⊎ (r.number ≡ possible_number (kind_of d.line.kind))

-- Demand 2 for every line by itself
abbrev pub EveryReportIsRight : Type 0
EveryReportIsRight = (d : Differential) → Proper d → RightReport d (report_of d)
