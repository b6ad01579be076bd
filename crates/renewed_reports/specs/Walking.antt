-- How a word's part is found in an index. An inner notion of the code: no document speaks of it.
use Rattle.std.specs.Prelude.{ℕ, zero, suc, ◌+◌, List, get_or}

-- where word j's part starts: from part to part, by each part's count
unfoldable pub part_at : List ℕ → ℕ → ℕ
part_at x zero = 0
part_at x (suc j) = part_at x j + (1 + get_or x (part_at x j) 0)
