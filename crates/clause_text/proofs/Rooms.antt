-- The buffers that the code has of its own are long enough: 4,944 numbers for the list of any line, 64 bytes for the header's line.
use Prim.Native.Nat.{ℕ, zero, ◌≤◌, ◌<◌}
use native.Mathlib.Omega.{arith}
use mathlib.Core.Path.{◌≡◌, ap}
use mathlib.Core.List.{List}
use lib.ListN.{length}
use Rattle.sheet.specs.declared.Header.{Header}
use Rattle.sheet.specs.declared.Mode.TheVariants.{Read}
use Rattle.sheet.specs.Fields.{trail_of}
use Rattle.sheet.specs.Facts.{SheetRead}
use Rattle.sheet.proofs.WellFormed.{accepted_sized}
use Rattle.clause_lists.specs.Lists.{line_list}
use Rattle.clause_lists.specs.Limits.{most_numbers}
use Rattle.clause_lists.proofs.Limits.{within_limits}
use Rattle.dimacs.specs.Numbers.{AllBelow}
use Rattle.clause_sizes.specs.Counts.{counts_of}
use Rattle.clause_sizes.specs.declared.Counts.{Counts}
use Rattle.dimacs.specs.Text.{header_text}
use Rattle.clause_file.specs.Parts.{file_part}
use Rattle.clause_file.proofs.Parts.{five_digits, header_short}

module _ {s : List ℕ} {h : Header} (read : SheetRead s h) (k : ℕ) (less : k < h.lines) where
  pub list_most : length (line_list (trail_of s) k) ≤ most_numbers 32
  list_most =
      (within_limits 32 (accepted_sized Read s read.accepted) read.well_formed).numbers_most k (omega (arith, read.lines))

  pub list_digits : AllBelow 100000 (line_list (trail_of s) k)
  list_digits = five_digits s read.accepted k (omega (arith, read.lines))

-- ---- the header's line, by both counts as the code has them

pub header_is : (s : List ℕ) {counts : Counts} → counts ≡ counts_of (trail_of s)
    → header_text counts.variables counts.clauses ≡ file_part (trail_of s) zero
unfolding file_part
header_is s e = ap (λ (c : Counts). header_text c.variables c.clauses) e

pub header_most : {s : List ℕ} {h : Header} → SheetRead s h → {counts : Counts} → counts ≡ counts_of (trail_of s)
    → length (header_text counts.variables counts.clauses) ≤ 64
header_most {s} read e = omega (arith, header_short s read.accepted, ap length (header_is s e))
