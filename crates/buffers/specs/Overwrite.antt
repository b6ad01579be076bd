-- What a lent buffer holds after a write.
use Rattle.std.specs.Prelude.{ℕ, ◌+◌, ◌≡◌, List, ◌++◌, length, take, drop}

-- l with the elements of new in place of as many of its own, from the position `at` on
unfoldable pub overwrite : {A : Type 0} → ℕ → List A → List A → List A
overwrite at new l = take at l ++ (new ++ drop (at + length new) l)

-- From the position `at` on, new was written over l, which made it m; p is the next position.
pub record Wrote {A : Type 0} (at : ℕ) (new l : List A) (p : ℕ) (m : List A) : Type 0 where
  pub next : p ≡ at + length new
  pub now_is : m ≡ overwrite at new l
