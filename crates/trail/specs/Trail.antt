-- A trail: what a sheet says, with no bytes (document 01, "The sheet").
use Rattle.std.specs.Prelude.{ℕ, ◌+◌, List, ◌++◌, map, length, get_or}
use Rattle.trail.specs.declared.Line.{Line}

-- the width n, the m input differences, and the lines
pub record Trail : Type 0 where
  pub width : ℕ
  pub inputs : List ℕ
  pub lines : List Line

-- m
abbrev pub input_count : Trail → ℕ
input_count t = length t.inputs

-- L
abbrev pub line_count : Trail → ℕ
line_count t = length t.lines

-- past the last line: a line of no kind
abbrev pub no_line : Line
no_line = record { kind = 0; amount = 0; first = 0; second = 0; constant = 0; difference = 0 }

-- line k
unfoldable pub line_at : Trail → ℕ → Line
line_at t k = get_or t.lines k no_line

-- the difference of word j: words 0 to m - 1 are the inputs, and line k makes word m + k and states its difference
unfoldable pub difference_at : Trail → ℕ → ℕ
difference_at t j = get_or (t.inputs ++ map (λ (l : Line). l.difference) t.lines) j 0
