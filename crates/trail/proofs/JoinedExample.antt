-- Two small trails joined, by computation: the list of names passes, and each operand has its new number.
use Prim.Native.Nat.{ℕ}
use mathlib.Core.Path.{◌≡◌, refl}
use mathlib.Core.Bool.{true}
use mathlib.Core.List.{List, [], ◌∷◌}
use Rattle.words.specs.Below.{any, all}
use Rattle.trail.specs.Kinds.{kind_of}
use Rattle.trail.specs.Trail.{Trail, difference_at}
use Rattle.trail.specs.Joining.{joined_word, joined, name_right, names_right}

-- line 0 makes word 2
abbrev first : Trail
first = record {
  width = 8;
  inputs = 1 ∷ 2 ∷ [];
  lines = record { kind = 1; amount = 0; first = 0; second = 1; constant = 0; difference = 3 } ∷ [];
}

-- The inputs are words 2 and 1 of the first. The lines make words 2 to 6, in the joined trail 3 to 7.
abbrev second : Trail
second = record {
  width = 8;
  inputs = 3 ∷ 2 ∷ [];
  lines =
      record { kind = 9; amount = 0; first = 0; second = 1; constant = 0; difference = 1 }
      ∷ record { kind = 1; amount = 0; first = 2; second = 0; constant = 0; difference = 2 }
      ∷ record { kind = 3; amount = 1; first = 3; second = 0; constant = 0; difference = 4 }
      ∷ record { kind = 6; amount = 0; first = 1; second = 0; constant = 5; difference = 2 }
      ∷ record { kind = 5; amount = 0; first = 2; second = 1; constant = 0; difference = 3 }
      ∷ [];
}

abbrev names : List ℕ
names = 2 ∷ 1 ∷ []

pub example_passes : names_right first second names ≡ true
unfolding names_right name_right difference_at any all
example_passes = refl

pub example_joined : (joined first second names).lines
    ≡ record { kind = 1; amount = 0; first = 0; second = 1; constant = 0; difference = 3 }
    ∷ record { kind = 9; amount = 0; first = 2; second = 1; constant = 0; difference = 1 }
    ∷ record { kind = 1; amount = 0; first = 3; second = 2; constant = 0; difference = 2 }
    ∷ record { kind = 3; amount = 1; first = 4; second = 0; constant = 0; difference = 4 }
    ∷ record { kind = 6; amount = 0; first = 1; second = 0; constant = 5; difference = 2 }
    ∷ record { kind = 5; amount = 0; first = 3; second = 1; constant = 0; difference = 3 }
    ∷ []
unfolding joined_word kind_of
example_joined = refl
