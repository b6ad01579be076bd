-- The lines of a joined trail, by the parts of the two sheets.
use Prim.Native.Nat.{ℕ, ◌+◌}
use mathlib.Core.Path.{◌≡◌, ap₂, ◌∙◌}
use mathlib.Core.List.{List}
use Rattle.trail.specs.Trail.{line_count}
use Rattle.trail.proofs.JoinedLines.{joined_count}
use Rattle.sheet.specs.Facts.{SheetRead}
use Rattle.sheet.specs.Fields.{trail_of}
use Rattle.sheet.specs.declared.Header.{Header}
use Rattle.joined_sheets.specs.JoinedSheet.{joined_trail}

pub joined_lines : {first second : List ℕ} {a b : Header} → SheetRead first a → SheetRead second b → (names : List ℕ)
    → line_count (joined_trail first second names) ≡ a.lines + b.lines
joined_lines {first} {second} one two names = joined_count (trail_of first) (trail_of second) names ∙ ap₂ ◌+◌ one.lines two.lines
