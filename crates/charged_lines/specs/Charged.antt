-- The lines that are charged, and the marks beside their list. Inner notions of the code: no document speaks of them.
use Rattle.std.specs.Prelude.{ℕ, ◌*◌, ◌/◌, ◌%◌, ◌^◌, ◌≡◌, Bool, true, not, List, eqb, ltb, get_or}
use Rattle.std.specs.Int.Bits.{bit_xor}
use Rattle.trail.specs.declared.Line.{Line}
use Rattle.differential.specs.Report.{Report}
use Rattle.listed_lines.specs.Listed.{fingerprint, is_listed}

-- so many marks
abbrev pub marks_count : ℕ
marks_count = 4096

-- the place of a line's mark, from its fingerprint: the product's bits 20 to 31 come from all bits that are multiplied
unfoldable pub mark_of : Line → ℕ
mark_of l = bit_xor (bit_xor (fingerprint l) (fingerprint l / 2 ^ 20)) (fingerprint l / 2 ^ 32) % 2 ^ 32 * 2654435769 / 2 ^ 20 % marks_count

-- whether the mark at the line's place is set
unfoldable pub is_marked : List ℕ → Line → Bool
is_marked marks l = not (eqb (get_or marks (mark_of l) 0) 0)

-- Every line of the list is marked: one whose mark is not set need not be searched for.
pub record Marked (s : List ℕ) (count : ℕ) (marks : List ℕ) : Type 0 where
  pub marked : (l : Line) → is_listed s count l ≡ true → is_marked marks l ≡ true

-- whether a report may have weight or chains: halves or counted
abbrev pub costs : Report → Bool
costs r = ltb 1 r.number
