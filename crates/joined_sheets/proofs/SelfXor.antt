-- A line of the joined sheet is a word XORed with itself exactly if the line that it came from is: renumbering keeps the kind, equal
-- operands equal, and different ones different.
use Prim.Native.Nat.{ℕ, ◌+◌, ◌<◌}
use native.Mathlib.Omega.{arith}
use mathlib.Core.Path.{◌≡◌, sym, ap, ◌∙◌, subst}
use mathlib.Core.Logic.{◌↔◌}
use mathlib.Core.Bool.{cond}
use mathlib.Core.List.{List}
use Rattle.trail.specs.declared.Line.{Line}
use Rattle.trail.specs.Kinds.{kind_of, uses_second}
use Rattle.trail.specs.Trail.{Trail, line_count, line_at}
use Rattle.trail.specs.Joining.{joined_word, joined_line}
use Rattle.trail.proofs.JoinedNames.{Joinable}
use Rattle.trail.proofs.JoinedLines.{line_first, line_second, word_once}
use Rattle.sheet.specs.Fields.{header_of, trail_of}
use Rattle.sheet.proofs.TrailParts.{trail_lines, trail_line}
use Rattle.sheet.specs.SelfXor.{SelfXorAt}
use Rattle.joined_sheets.specs.JoinedSheet.{joined_sheet}
use Rattle.joined_sheets.specs.SelfXor.{JoiningKeepsSelfXors}
use Rattle.joined_sheets.proofs.Joined.{can, joined_sheets_are_right}

-- kind 1 with equal operands
abbrev XorsItself : Line → Type 0
XorsItself l = (l.kind ≡ 1) × (l.first ≡ l.second)

-- ---- the line of a trail, and of a sheet

renumbered : {a b : Trail} {names : List ℕ} → Joinable a b names → (l : Line) → XorsItself (joined_line a b names l) ↔ XorsItself l
unfolding kind_of
renumbered {a} {b} {names} able l = (
  λ e. (e.0, word_once able l.first l.second (e.1 ∙ uses_second_lem e.0)),
  λ e. (e.0, ap (joined_word a b names) e.1 ∙ sym (uses_second_lem e.0)),
)
  where
    uses_second_lem : l.kind ≡ 1
        → cond (uses_second (kind_of l.kind)) (joined_word a b names l.second) 0 ≡ joined_word a b names l.second
    uses_second_lem e = ap (λ (q : ℕ). cond (uses_second (kind_of q)) (joined_word a b names l.second) 0) e

by_trail : (s : List ℕ) (k : ℕ) → k < line_count (trail_of s) → SelfXorAt s k ↔ XorsItself (line_at (trail_of s) k)
by_trail s k l =
    let less : k < (header_of s).lines = omega (arith, trail_lines s) in
    let same = trail_line s k less in (
      λ at. subst XorsItself (sym same) (at.kind, at.operands),
      λ e. let both = subst XorsItself same e in record { below = less; kind = both.0; operands = both.1 },
    )

alike : (s t : List ℕ) (i k : ℕ) → i < line_count (trail_of s) → k < line_count (trail_of t)
    → XorsItself (line_at (trail_of s) i) ↔ XorsItself (line_at (trail_of t) k) → SelfXorAt s i ↔ SelfXorAt t k
alike s t i k l m both = (
  λ at. (by_trail t k m).1 (both.0 ((by_trail s i l).0 at)),
  λ at. (by_trail s i l).1 (both.1 ((by_trail t k m).0 at)),
)

pub joining_keeps_self_xors : JoiningKeepsSelfXors
joining_keeps_self_xors first second names one two asked =
    let a = trail_of first in
    let b = trail_of second in
    let sheet = joined_sheet first second names in
    let right = joined_sheets_are_right first second names one two asked in
    record {
      of_first = λ k l.
          let same : line_at (trail_of sheet) k ≡ line_at a k = ap (λ (t : Trail). line_at t k) right.trail ∙ line_first a b names k l in
          alike sheet first k k (omega (arith, right.lines)) l (subst XorsItself same, subst XorsItself (sym same));
      of_second = λ k l.
          let same : line_at (trail_of sheet) (line_count a + k) ≡ joined_line a b names (line_at b k) =
          ap (λ (t : Trail). line_at t (line_count a + k)) right.trail ∙ line_second a b names k l in
          let kept = renumbered (can first second names asked) (line_at b k) in
          alike sheet second (line_count a + k) k (omega (arith, right.lines)) l
          (λ e. kept.0 (subst XorsItself same e), λ e. subst XorsItself (sym same) (kept.1 e));
    }
