-- What questions 4 to 15 of documents 01 and 02 say of a trail.
use Rattle.std.specs.Prelude.{ℕ, ◌+◌, ◌^◌, ◌<◌, ◌≤◌, ◌≡◌, ◌≢◌, true, false, get_or}
use Rattle.trail.specs.declared.Line.{Line}
use Rattle.trail.specs.Kinds.{kind_of, uses_second, uses_amount, uses_constant, wants_distinct}
use Rattle.trail.specs.Kinds.Kind.{unknown}
use Rattle.trail.specs.Trail.{Trail, input_count, line_count, line_at}

-- a line of width n that makes word j
pub record WellFormedLine (n j : ℕ) (l : Line) : Type 0 where
  pub kind_known : kind_of l.kind ≢ unknown
  pub first_earlier : l.first < j
  pub second_earlier : uses_second (kind_of l.kind) ≡ true → l.second < j
  pub operands_differ : wants_distinct (kind_of l.kind) ≡ true → l.first ≢ l.second
  pub amount_least : uses_amount (kind_of l.kind) ≡ true → 1 ≤ l.amount
  pub amount_most : uses_amount (kind_of l.kind) ≡ true → l.amount < n
  pub constant_word : uses_constant (kind_of l.kind) ≡ true → l.constant < 2 ^ n
  pub difference_word : l.difference < 2 ^ n
  pub second_unused : uses_second (kind_of l.kind) ≡ false → l.second ≡ 0
  pub amount_unused : uses_amount (kind_of l.kind) ≡ false → l.amount ≡ 0
  pub constant_unused : uses_constant (kind_of l.kind) ≡ false → l.constant ≡ 0

-- what theorems rest on
pub record WellFormed (t : Trail) : Type 0 where
  pub width_least : 2 ≤ t.width
  pub inputs_least : 1 ≤ input_count t
  pub lines_least : 1 ≤ line_count t
  pub inputs_words : (j : ℕ) → j < input_count t → get_or t.inputs j 0 < 2 ^ t.width
  pub lines_right : (k : ℕ) → k < line_count t → WellFormedLine t.width (input_count t + k) (line_at t k)

-- how many inputs, lines and words there are at most
abbrev pub most_inputs : ℕ
most_inputs = 8

abbrev pub most_lines : ℕ
most_lines = 248

abbrev pub most_words : ℕ
most_words = most_inputs + most_lines

-- the upper limits, on which only the code's bounds rest: words of at most so many bits
pub record Sized (most : ℕ) (t : Trail) : Type 0 where
  pub width_most : t.width ≤ most
  pub inputs_most : input_count t ≤ most_inputs
  pub lines_most : line_count t ≤ most_lines
