-- Both runs make the line's word; the two differ by the stated difference where the answer has a 0.
use Prim.Native.Nat.{ℕ, ◌+◌}
use mathlib.Core.Path.{◌≡◌, sym, ap, ap₂, ◌∙◌}
use mathlib.Core.List.{List}
use native.Mathlib.Omega.{arith}
use lib.Bits.{bit_xor}
use lib.ListN.{get_or, set}
use Rattle.trail.specs.declared.Line.{Line}
use Rattle.trail.specs.Kinds.{makes}
use Rattle.trail.specs.Trail.{line_at}
use Rattle.trail.specs.Runs.{word_of_line}
use Rattle.sheet.specs.declared.Header.{Header}
use Rattle.sheet.specs.Fields.{trail_of}
use Rattle.sheet.specs.Facts.{SheetRead}
use Rattle.sheet.proofs.WellFormed.{line_at_right}
use Rattle.sheet_runs.specs.Facts.{with_line}
use Rattle.sheet_runs.proofs.lines.run_line.Goals as goal

-- a line's word, made from the array's words, is the trail's
made : (s : List ℕ) (h : Header) → SheetRead s h → (k : ℕ) {l : Line} → l ≡ line_at (trail_of s) k → (words : List ℕ) {after : List ℕ} {r : ℕ}
    → (r ≡ makes h.width l (get_or words l.first 0) (get_or words l.second 0)) × (after ≡ set words (h.inputs + k) r)
    → (r ≡ word_of_line (trail_of s) k words) × (after ≡ with_line (trail_of s) k words)
unfolding word_of_line
made s h read k {l} e words (p, q) =
    let word =
    p
    ∙ ap (λ (n : ℕ). makes n l (get_or words l.first 0) (get_or words l.second 0)) (sym read.width)
    ∙ ap (λ (z : Line). makes (trail_of s).width z (get_or words z.first 0) (get_or words z.second 0)) e in
    (word, q ∙ ap₂ (λ (m w : ℕ). set words (m + k) w) (sym read.inputs) word)

pub overflow_add-word : goal.overflow_add-word
overflow_add-word c =
    omega arith

pub make_word-x-requires : goal.make_word-x-requires
make_word-x-requires c =
    let line = line_at_right _ _ c.args.sheet.now.read _ c.requires.0 c.line_at-line.ensures in
    (omega arith, omega arith, omega arith, line, c.requires.1)

pub make_word-y-requires : goal.make_word-y-requires
make_word-y-requires c =
    let line = line_at_right _ _ c.args.sheet.now.read _ c.requires.0 c.line_at-line.ensures in
    (omega arith, omega arith, omega arith, line, c.requires.2)

pub returns : goal.returns
returns c =
    let line = c.line_at-line.ensures in
    let first = made _ _ c.args.sheet.now.read _ line c.args.first.now c.make_word-x.ensures in
    let second = made _ _ c.args.sheet.now.read _ line c.args.second.now c.make_word-y.ensures in
    (first.1, second.1, ap₂ bit_xor (ap₂ bit_xor first.0 second.0) (ap (λ (l : Line). l.difference) line))
