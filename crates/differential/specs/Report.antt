-- A line's report (document 01, "Line reports"; document 02, W-201): one of four, with document 01's number and values.
use Rattle.std.specs.Prelude.{ℕ, ◌*◌, cond, eqb}
use Rattle.std.specs.Int.Bits.{bit_xor}
use Rattle.words.specs.Words.{rotate_left, rotate_right, shift_left, shift_right}
use Rattle.trail.specs.Kinds.{Kind, kind_of}
use Rattle.trail.specs.Kinds.Kind.{xorWords, xorConstant, rotatesLeft, rotatesRight, addWords, addConstant, shiftsLeft, shiftsRight, subtractWords, unknown}
use Rattle.differential.specs.declared.Differential.{Differential}
use Rattle.differential.specs.Fits.{fitting}
use Rattle.differential.specs.TwoWords.{words_impossible, words_weight}
use Rattle.differential.specs.Constant.{chains}
use Rattle.differential.specs.Unit.{unit}
use Rattle.differential.specs.Weight.{constant_weight}
use Rattle.differential.specs.declared.LineReport.{LineReport}
use Rattle.differential.specs.declared.LineReport.TheVariants.{Impossible, Certain, Halves, Counted}

-- 0 impossible, 1 certain, 2 halves, 3 counted; chains; weight in sixteenths; N. What does not apply is 0.
pub record Report : Type 0 where
  pub number : ℕ
  pub chains : ℕ
  pub weight : ℕ
  pub fitting : ℕ

abbrev pub impossible : Report
impossible = record { number = 0; chains = 0; weight = 0; fitting = 0 }

abbrev pub certain : Report
certain = record { number = 1; chains = 0; weight = 0; fitting = 0 }

-- halves cost whole bits, 16 sixteenths each
abbrev pub halves : ℕ → Report
halves bits = record { number = 2; chains = 0; weight = unit * bits; fitting = 0 }

abbrev pub counted : ℕ → ℕ → ℕ → Report
counted weight c n = record { number = 3; chains = c; weight = weight; fitting = n }

-- what the code's answer means
abbrev pub report_means : LineReport → Report
report_means Impossible = impossible
report_means Certain = certain
report_means (Halves bits) = halves bits.0
report_means (Counted weight c n) = counted weight.0 c n.0

-- certain if the difference is the given one, else impossible
abbrev pub certain_if : ℕ → ℕ → Report
certain_if difference given = cond (eqb difference given) certain impossible

-- adding two words: halves or impossible
abbrev pub words_report : ℕ → ℕ → ℕ → ℕ → Report
words_report n α β γ = cond (words_impossible n α β γ) impossible (halves (words_weight n α β γ))

-- adding a constant: impossible means N = 0, else counted
abbrev pub constant_report : ℕ → ℕ → ℕ → ℕ → ℕ → Report
constant_report n a u v fit = cond (eqb fit 0) impossible (counted (constant_weight n a u v) (chains n u v) fit)

-- an addition of two words, by the differences of its operands and of its result
pub record Addition : Type 0 where
  pub first : ℕ
  pub second : ℕ
  pub result : ℕ

-- kind 5: the line's own addition
abbrev pub own_addition : Differential → Addition
own_addition d = record { first = d.first; second = d.second; result = d.line.difference }

-- Kind 9 with operands' differences α, β and stated difference γ: the addition that turns result and second word back into the
-- first, α from γ and β (document 02, W-201).
abbrev pub turning_back : Differential → Addition
turning_back d = record { first = d.line.difference; second = d.second; result = d.first }

-- How a kind's lines are reported: a linear kind by the difference that its operands' differences give, the others by an addition of
-- two words or of a constant. An unknown kind has no report, written impossible.
pub data Reporting : Type 0 where
  linear : (Differential → ℕ) → Reporting
  two_words : (Differential → Addition) → Reporting
  constant none : Reporting

-- Kinds 1 to 4 give the XOR, copy or rotation of the operands' differences, kinds 7 and 8 the shift.
abbrev pub reporting : Kind → Reporting
reporting xorWords = linear (λ d. bit_xor d.first d.second)
reporting xorConstant = linear (λ d. d.first)
reporting rotatesLeft = linear (λ d. rotate_left d.width d.line.amount d.first)
reporting rotatesRight = linear (λ d. rotate_right d.width d.line.amount d.first)
reporting addWords = two_words own_addition
reporting addConstant = constant
reporting shiftsLeft = linear (λ d. shift_left d.width d.line.amount d.first)
reporting shiftsRight = linear (λ d. shift_right d.line.amount d.first)
reporting subtractWords = two_words turning_back
reporting unknown = none

-- Linear kinds are certain if the difference is the given one, else impossible. Kinds 5 and 9 are halves or impossible. Kind 6 is
-- counted or impossible.
abbrev pub report_by : Reporting → Differential → Report
report_by (linear given) d = certain_if d.line.difference (given d)
report_by (two_words sum) d = words_report d.width (sum d).first (sum d).second (sum d).result
report_by constant d = constant_report d.width d.line.constant d.first d.line.difference (fitting d)
report_by none d = impossible

unfoldable pub report_of : Differential → Report
report_of d = report_by (reporting (kind_of d.line.kind)) d

-- what an inner function of the code cites: the difference that a linear line gives; other lines give none, written 0
abbrev pub given_by : Reporting → Differential → ℕ
given_by (linear given) d = given d
given_by (two_words sum) d = 0
given_by constant d = 0
given_by none d = 0

unfoldable pub given_difference : Differential → ℕ
given_difference d = given_by (reporting (kind_of d.line.kind)) d
