-- The words that the kinds make, by computation: of words of 5 bits, 19 and 21, with the amount 2 and the constant 1. No number beyond
-- 1 to 9 is a kind.
use Prim.Native.Nat.{ℕ}
use mathlib.Core.Path.{◌≡◌, refl}
use mathlib.Core.List.{[], ◌∷◌}
use Rattle.words.specs.Words.{sum_modulo, minus_modulo, rotate_left, rotate_right, shift_left, shift_right}
use Rattle.words.specs.Below.{tabulate}
use Rattle.trail.specs.declared.Line.{Line}
use Rattle.trail.specs.Kinds.{kind_of, makes}

abbrev pub line_of_kind : ℕ → Line
line_of_kind k = record { kind = k; amount = 2; first = 0; second = 1; constant = 1; difference = 0 }

pub kinds_make : tabulate 11 (λ k. makes 5 (line_of_kind k) 19 21) ≡ 0 ∷ 6 ∷ 18 ∷ 14 ∷ 28 ∷ 8 ∷ 20 ∷ 12 ∷ 4 ∷ 30 ∷ 0 ∷ []
unfolding tabulate makes kind_of sum_modulo minus_modulo rotate_left rotate_right shift_left shift_right
kinds_make = refl
