-- A change leaves the index (document 02, W-208).
use Rattle.std.specs.Prelude.{ℕ, ◌≡◌}
use Rattle.trail.specs.Trail.{Trail}
use Rattle.trail.specs.Changing.{with_difference}
use Rattle.sheet_indexes.specs.Index.{index_of}

-- The index knows no differences: with any line's stated difference replaced, it is the same.
abbrev pub IndexStays : Type 0
IndexStays = (t : Trail) (k d : ℕ) → index_of (with_difference t k d) ≡ index_of t
