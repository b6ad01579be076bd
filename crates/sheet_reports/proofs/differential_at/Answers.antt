-- What was read of the line and its operands is the trail's differential.
use Prim.Native.Nat.{ℕ}
use mathlib.Core.Path.{◌≡◌, sym, ap, ◌∙◌}
use mathlib.Core.List.{List}
use native.Mathlib.Omega.{arith}
use Rattle.trail.specs.declared.Line.{Line}
use Rattle.trail.specs.Trail.{line_at, difference_at}
use Rattle.trail.proofs.Runs.{second_below}
use Rattle.differential.specs.declared.Differential.{Differential}
use Rattle.sheet.specs.declared.Header.{Header}
use Rattle.sheet.specs.Fields.{trail_of}
use Rattle.sheet.specs.Facts.{SheetRead}
use Rattle.sheet.proofs.WellFormed.{line_at_right}
use Rattle.trail_reports.specs.Lines.{differential_of}
use Rattle.sheet_reports.proofs.differential_at.Goals as goal

same : (s : List ℕ) (h : Header) → SheetRead s h → (k : ℕ) {l : Line} {x y : ℕ} → l ≡ line_at (trail_of s) k
    → x ≡ difference_at (trail_of s) l.first → y ≡ difference_at (trail_of s) l.second
    → ◌≡◌ {A = Differential} (record { width = h.width; line = l; first = x; second = y }) (differential_of (trail_of s) k)
unfolding differential_of
same s h read k e p q =
    let width = sym read.width in
    let first = p ∙ ap (λ (z : Line). difference_at (trail_of s) z.first) e in
    let second = q ∙ ap (λ (z : Line). difference_at (trail_of s) z.second) e in
    λ i. record { width = width i; line = e i; first = first i; second = second i }

pub difference_at-first-requires : goal.difference_at-first-requires
difference_at-first-requires c =
    let right = line_at_right c.args.sheet.now.bytes.now c.args.sheet.now.header c.args.sheet.now.read c.args.k c.requires c.line_at-line.ensures in
    omega (arith, right.first_earlier)

pub difference_at-second-requires : goal.difference_at-second-requires
difference_at-second-requires c =
    let right = line_at_right c.args.sheet.now.bytes.now c.args.sheet.now.header c.args.sheet.now.read c.args.k c.requires c.line_at-line.ensures in
    omega (arith, second_below right)

pub returns : goal.returns
returns c =
    same c.args.sheet.now.bytes.now c.args.sheet.now.header c.args.sheet.now.read c.args.k c.line_at-line.ensures c.difference_at-first.ensures c.difference_at-second.ensures
