-- What the numbers below a bound give to a test or a function. `count` is the one notion of counting.
use Rattle.std.specs.Prelude.{ℕ, zero, suc, ◌+◌, Bool, true, false, ◌&&◌, ◌||◌, List, [], ◌∷◌, ◌++◌}
use Rattle.words.specs.Words.{value}

-- whether each number below the bound passes
unfoldable pub all : ℕ → (ℕ → Bool) → Bool
all zero p = true
all (suc b) p = all b p && p b

-- whether some number below the bound passes
unfoldable pub any : ℕ → (ℕ → Bool) → Bool
any zero p = false
any (suc b) p = any b p || p b

-- how many numbers below the bound pass
unfoldable pub count : ℕ → (ℕ → Bool) → ℕ
count zero p = 0
count (suc b) p = count b p + value (p b)

-- the sum of the values at the numbers below the bound
unfoldable pub total : ℕ → (ℕ → ℕ) → ℕ
total zero f = 0
total (suc b) f = total b f + f b

module _ {A : Type 0} where
  -- the values at the numbers below the bound, in order
  unfoldable pub tabulate : ℕ → (ℕ → A) → List A
  tabulate zero f = []
  tabulate (suc b) f = tabulate b f ++ (f b ∷ [])

  -- the lists at the numbers below the bound, one after the other
  unfoldable pub concat : ℕ → (ℕ → List A) → List A
  concat zero f = []
  concat (suc b) f = concat b f ++ f b
