-- Lines in a list of numbers: which line it is that stands at a position, and what the list keeps when one more is written behind them.
use Prim.Native.Nat.{ℕ, ◌+◌, ◌≤◌, ◌<◌}
use native.Mathlib.Omega.{arith}
use mathlib.Core.Path.{◌≡◌, sym, ◌∙◌}
use mathlib.Core.Bool.{true}
use mathlib.Core.List.{List}
use borrow.Author.Tests.{eqb-true, eq-eqb}
use lib.Dec.{eqb}
use lib.ListN.{length, get_or}
use Rattle.words.proofs.Below.{all_true, all_yes_lem, all_cong}
use Rattle.buffers.specs.Overwrite.{overwrite}
use Rattle.buffers.proofs.Overwrite.{get_or_overwrite_inside, get_or_overwrite_before}
use Rattle.trail.specs.declared.Line.{Line}
use Rattle.trail.proofs.Repeats.{same_line}
use Rattle.listed_lines.specs.Listed.{line_numbers, numbers_of, stands_at}

-- at one position one line stands
pub stands_one : (s : List ℕ) (at : ℕ) (l r : Line) → stands_at s at (numbers_of l) ≡ true → stands_at s at (numbers_of r) ≡ true → l ≡ r
unfolding stands_at
stands_one s at l r e f =
    same_line
    (number 5 (omega arith))
    (number 6 (omega arith))
    (number 1 (omega arith))
    (number 2 (omega arith))
    (number 4 (omega arith))
    (number 3 (omega arith))
  where
    stood : (q : Line) → stands_at s at (numbers_of q) ≡ true → (j : ℕ) → j < line_numbers → get_or s (at + j) 0 ≡ get_or (numbers_of q) j 0
    stood q h j l = eqb-true (get_or s (at + j) 0) (get_or (numbers_of q) j 0) (all_true line_numbers (λ j. eqb (get_or s (at + j) 0) (get_or (numbers_of q) j 0)) h j l)

    number : (j : ℕ) → j < line_numbers → get_or (numbers_of l) j 0 ≡ get_or (numbers_of r) j 0
    number j h = sym (stood l e j h) ∙ stood r f j h

module _ (s : List ℕ) (at : ℕ) (l : Line) (room : at + line_numbers ≤ length s) where
  -- the line that was written stands,
  pub stands_written : stands_at (overwrite at (numbers_of l) s) at (numbers_of l) ≡ true
  unfolding stands_at
  stands_written = all_yes_lem line_numbers _ (λ j h. eq-eqb _ _ (get_or_overwrite_inside at (numbers_of l) s room j 0 h))

  -- and so do those before it
  pub stands_before : (p : ℕ) (q : Line) → p + line_numbers ≤ at
      → stands_at (overwrite at (numbers_of l) s) p (numbers_of q) ≡ stands_at s p (numbers_of q)
  unfolding stands_at
  stands_before p q h =
      all_cong line_numbers _ _
      (λ j less. rw (get_or_overwrite_before at (numbers_of l) s (omega arith) (p + j) 0 (omega arith)))
