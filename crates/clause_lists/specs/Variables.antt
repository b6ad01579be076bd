-- The variables of a trail, by number, and the literals of both runs (document 01, "Clauses").
use Rattle.std.specs.Prelude.{ℕ, ◌+◌, ◌-◌, ◌*◌, Bool, cond, ℤ, pos, neg_ℤ}
use Rattle.words.specs.Words.{bit}
use Rattle.words.specs.Below.{count}
use Rattle.trail.specs.Kinds.{kind_of}
use Rattle.trail.specs.Trail.{Trail, input_count, line_count, line_at, difference_at}
use Rattle.clause_lists.specs.Kinds.{has_carries}

pub data Run : Type 0 where
  firstRun secondRun : Run

-- Bit i of word j is variable nj + i + 1.
unfoldable pub bit_variable : Trail → ℕ → ℕ → ℕ
bit_variable t j i = t.width * j + i + 1

-- whether line k is an addition line: kinds 5, 6 and 9, a borrow replacing the carry (document 02, W-201)
abbrev pub adds : Trail → ℕ → Bool
adds t k = has_carries (kind_of (line_at t k).kind)

-- the variables of the words, and of the carries of the addition lines before line k: 2(n - 1) for each
unfoldable pub variables_before : Trail → ℕ → ℕ
variables_before t k = t.width * (input_count t + line_count t) + 2 * (t.width - 1) * count k (adds t)

-- Then, for each addition line in order, the first run's carries into bits 1 to n - 1, then the second's.
unfoldable pub carry_variable : Trail → Run → ℕ → ℕ → ℕ
carry_variable t firstRun k i = variables_before t k + i
carry_variable t secondRun k i = variables_before t k + (t.width - 1) + i

-- A sheet has n(m + L) variables and 2(n - 1) more for each addition line.
unfoldable pub variables : Trail → ℕ
variables t = variables_before t (line_count t)

-- The second run's literal for a word's bit is the first's, negated where that bit of the word's difference is 1;
unfoldable pub bit_literal : Trail → Run → ℕ → ℕ → ℤ
bit_literal t firstRun j i = pos (bit_variable t j i)
bit_literal t secondRun j i = cond (bit (difference_at t j) i) (neg_ℤ (pos (bit_variable t j i))) (pos (bit_variable t j i))

-- its carries are its own.
unfoldable pub carry_literal : Trail → Run → ℕ → ℕ → ℤ
carry_literal t run k i = pos (carry_variable t run k i)
