-- In a sheet's own index the parts are found where they stand.
use Prim.Native.Nat.{ℕ, zero, suc, ◌+◌, ◌<◌, ◌≤◌}
use native.Mathlib.Numerals.{add-one}
use native.Mathlib.Omega.{arith}
use mathlib.Core.Path.{◌≡◌, refl, sym, ap, ◌∙◌}
use mathlib.Core.List.{List}
use lib.ListN.{length, get_or}
use Rattle.trail.specs.Trail.{Trail}
use Rattle.sheet_indexes.specs.Index.{word_count, index_of, part_start}
use Rattle.sheet_indexes.proofs.Index.{start_none, start_next, part_inside, index_count}
use Rattle.renewed_reports.specs.Walking.{part_at}

pub walk_none : (x : List ℕ) → 0 ≡ part_at x 0
unfolding part_at
walk_none x = refl

pub walk_next : (x : List ℕ) (j : ℕ) → part_at x (j + 1) ≡ part_at x j + (1 + get_or x (part_at x j) 0)
unfolding part_at
walk_next x j = rw add-one

pub part_found : (t : Trail) (j : ℕ) → j ≤ word_count t → part_at (index_of t) j ≡ part_start t j
unfolding part_at
part_found t zero h = sym (start_none t)
part_found t (suc j) h =
    let before = part_found t j (omega arith) in
    let count = ap (λ (q : ℕ). get_or (index_of t) q 0) before ∙ index_count t j (omega arith) in
    omega (arith, before, count, start_next t j, ap (part_start t) (add-one j))

-- so the walk stays in the index
pub walk_inside : (t : Trail) (j : ℕ) → j < word_count t → part_at (index_of t) j < length (index_of t)
walk_inside t j h = omega (arith, part_found t j (omega arith), part_inside t j h)
