-- The invariant: the line's numbers stand at none of the places passed.
use Prim.Native.Nat.{ℕ, ◌*◌}
use mathlib.Core.Path.{◌≡◌}
use mathlib.Core.Bool.{Bool, false}
use mathlib.Core.List.{List}
use Rattle.words.specs.Below.{any}
use Rattle.listed_lines.specs.Listed.{line_numbers, stands_at}
use Rattle.listed_lines.proofs.is_listed.Given as goal

abbrev found : List ℕ → ℕ → List ℕ → Bool
found s count numbers = any count (λ i. stands_at s (line_numbers * i) numbers)

abbrev pub invariant-loop-i : goal.invariant-loop-i
invariant-loop-i l = found l.list l.i l.numbers ≡ false
