-- What the inner functions that write a line's list cite: one run of a line as the code holds it, and its literals.
use Rattle.std.specs.Prelude.{ℕ, ◌+◌, ◌-◌, ◌*◌, ◌<◌, ◌^◌, cond, eqb, ℤ, pos, neg_ℤ}
use Rattle.std.specs.Int.Signed.{mag}
use Rattle.words.specs.Words.{bit}
use Rattle.trail.specs.Kinds.{kind_of}
use Rattle.cnf.specs.Gates.{Input}
use Rattle.clause_lists.specs.Kinds.{Taken, gates, taken_input}
use Rattle.run_literals.specs.declared.LineRun.{LineRun}

-- bit i of word j of n bits: its variable, negated where the bit of a difference is 1
unfoldable pub signed_literal : ℕ → ℕ → ℕ → ℕ → ℤ
signed_literal n j difference i = cond (bit difference i) (neg_ℤ (pos (n * j + i + 1))) (pos (n * j + i + 1))

-- the difference whose ones negate the literals of a word of the line
abbrev pub difference_in : LineRun → ℕ → ℕ
difference_in r j = cond (eqb j r.word) r.made (cond (eqb j r.line.first) r.first r.second)

unfoldable pub word_in : LineRun → ℕ → ℕ → ℤ
word_in r j i = signed_literal r.width j (difference_in r j) i

unfoldable pub carry_in : LineRun → ℕ → ℤ
carry_in r i = pos (r.carries + i)

-- the bit of the first operand that bit i takes
abbrev pub taken_at : LineRun → ℕ → Taken
taken_at r i = (gates (kind_of r.line.kind)).taken r.width r.line.amount i

abbrev pub taken_in : LineRun → ℕ → Input
taken_in r i = taken_input (taken_at r i) (word_in r r.line.first)

-- a literal that the machine can negate
abbrev pub CanNegate : ℤ → Type 0
CanNegate l = mag l < 2 ^ 31 - 1
