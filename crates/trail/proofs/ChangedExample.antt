-- One stated difference changed, by computation: of three lines the second's.
use Prim.Native.Nat.{ℕ}
use mathlib.Core.Path.{◌≡◌, refl}
use mathlib.Core.List.{List, [], ◌∷◌}
use Rattle.words.specs.Below.{tabulate}
use Rattle.trail.specs.Trail.{Trail, line_at, difference_at}
use Rattle.trail.specs.Changing.{with_difference}

-- n is 4, the input differences are 1 and 2; line 1 states d
unfoldable pub example : ℕ → Trail
example d = record {
  width = 4;
  inputs = 1 ∷ 2 ∷ [];
  lines =
      record { kind = 1; amount = 0; first = 0; second = 1; constant = 0; difference = 3 }
      ∷ record { kind = 3; amount = 1; first = 2; second = 0; constant = 0; difference = d }
      ∷ record { kind = 6; amount = 0; first = 3; second = 0; constant = 7; difference = 6 }
      ∷ [];
}

pub record ExampleChanged : Type 0 where
  pub trail : with_difference (example 6) 1 5 ≡ example 5
  pub differences : tabulate 5 (difference_at (with_difference (example 6) 1 5)) ≡ 1 ∷ 2 ∷ 3 ∷ 5 ∷ 6 ∷ []

pub example_changed : ExampleChanged
unfolding example line_at difference_at tabulate
example_changed = record { trail = refl; differences = refl }
