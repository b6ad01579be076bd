-- The first of the line's numbers is its fingerprint, and what is made of it is the definition's.
use Prim.Native.Nat.{ℕ, ◌*◌, ◌/◌, ◌%◌, ◌<◌, ◌^◌}
use native.Mathlib.Omega.{arith}
use mathlib.Core.Path.{ap}
use mathlib.Core.List.{List}
use lib.Bits.{bit_xor}
use lib.ListN.{get_or}
use Rattle.charged_lines.specs.Charged.{marks_count, mark_of}
use Rattle.charged_lines.proofs.mark_of.Goals as goal

abbrev folded : ℕ → ℕ
folded f = bit_xor (bit_xor f (f / 2 ^ 20)) (f / 2 ^ 32) % 2 ^ 32 * 2654435769 / 2 ^ 20

below : (n : ℕ) → n % marks_count < marks_count
below n = omega arith

pub returns : goal.returns
unfolding mark_of
returns c =
    (ap (λ (numbers : List ℕ). folded (get_or numbers 0 0) % marks_count) c.numbers_of-numbers.ensures, below (folded (get_or c.numbers_of-numbers.result 0 0)))
