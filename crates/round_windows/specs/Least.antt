-- The least of the windows (document 02, W-209).
use Rattle.std.specs.Prelude.{ℕ, ◌<◌, ◌≤◌, ◌≡◌, Bool, true, false, not, ◌&&◌, ◌||◌, cond, List, [], ◌∷◌, leb}
use Rattle.words.specs.Below.{all, any}
use Rattle.sheet_runs.specs.Outcome.{least}
use Rattle.trail.specs.Trail.{Trail}
use Rattle.round_windows.specs.Rounds.{window_count}
use Rattle.round_windows.specs.Windows.{Entry, entry, is_marked}

-- Of the entries e 0 to e (n - 1), a window from each round on: whether that from round i on is not marked, and none that is not
-- marked weighs less.
unfoldable pub weighs_least : (ℕ → Entry) → ℕ → ℕ → Bool
weighs_least e n i = not (is_marked (e i)) && all n (λ j. is_marked (e j) || leb (e i).weight (e j).weight)

-- the lowest round that the least weight starts at
unfoldable pub least_round : (ℕ → Entry) → ℕ → ℕ
least_round e n = least n (weighs_least e n)

-- 1, the least weight, the round it starts at; 0, 0, 0 if all windows are marked
unfoldable pub least_numbers : (ℕ → Entry) → ℕ → List ℕ
least_numbers e n =
    cond (all n (λ i. is_marked (e i)))
    (0 ∷ 0 ∷ 0 ∷ [])
    (1 ∷ (e (least_round e n)).weight ∷ least_round e n ∷ [])

-- the reply to a call
abbrev pub windows_least : Trail → List ℕ → ℕ → List ℕ
windows_least t starts r = least_numbers (entry t starts r) (window_count starts r)

-- The least is one of the unmarked entries, at most every unmarked entry's weight, and no lower round has it.
pub record LeastOf (e : ℕ → Entry) (n i : ℕ) : Type 0 where
  pub below : i < n
  pub unmarked : is_marked (e i) ≡ false
  pub at_most : (j : ℕ) → j < n → is_marked (e j) ≡ false → (e i).weight ≤ (e j).weight
  pub no_lower : (j : ℕ) → j < i → is_marked (e j) ≡ false → (e i).weight < (e j).weight

-- three numbers: that there is none, if all windows are marked; else that there is one, its weight and its round
pub record LeastRight (e : ℕ → Entry) (n : ℕ) : Type 0 where
  pub none : ((i : ℕ) → i < n → is_marked (e i) ≡ true) → least_numbers e n ≡ 0 ∷ 0 ∷ 0 ∷ []
  pub one : (i : ℕ) → i < n → is_marked (e i) ≡ false → LeastOf e n (least_round e n)
  pub told : (i : ℕ) → i < n → is_marked (e i) ≡ false → least_numbers e n ≡ 1 ∷ (e (least_round e n)).weight ∷ least_round e n ∷ []

-- whatever the entries
abbrev pub LeastIsRight : Type 0
LeastIsRight = (e : ℕ → Entry) (n : ℕ) → LeastRight e n
