-- A line of a joined trail has the report of the line that it came from, by locality.
use Prim.Native.Nat.{ℕ, ◌+◌, ◌<◌}
use native.Mathlib.Omega.{arith}
use mathlib.Core.Path.{◌≡◌, refl, sym, ap, ◌∙◌}
use mathlib.Core.Bool.{Bool, cond}
use mathlib.Core.List.{List}
use Rattle.trail.specs.declared.Line.{Line}
use Rattle.trail.specs.Kinds.{kind_of, uses_second}
use Rattle.trail.specs.Trail.{Trail, line_count, line_at, difference_at}
use Rattle.trail.specs.WellFormed.{WellFormed}
use Rattle.trail.specs.Joining.{joined_word, joined}
use Rattle.trail.proofs.JoinedNames.{Joinable}
use Rattle.trail.proofs.JoinedLines.{line_first, line_second, difference_first, difference_second}
use Rattle.trail_reports.specs.Lines.{line_report}
use Rattle.trail_reports.proofs.Demand2.{reports_are_local}

module _ {a b : Trail} {names : List ℕ} (can : Joinable a b names) (good_a : WellFormed a) (good_b : WellFormed b) where
  abbrev both : Trail
  both = joined a b names

  pub first_report : (k : ℕ) → k < line_count a → line_report both k ≡ line_report a k
  first_report k l =
      let same = line_first a b names k l in
      let line = good_a.lines_right k l in
      reports_are_local both k a k (record {
        width = refl;
        kind = ap (λ (r : Line). r.kind) same;
        amount = ap (λ (r : Line). r.amount) same;
        constant = ap (λ (r : Line). r.constant) same;
        difference = ap (λ (r : Line). r.difference) same;
        first =
            ap (λ (r : Line). difference_at both r.first) same
            ∙ difference_first a b names (line_at a k).first (omega (arith, line.first_earlier));
        second = λ used.
            ap (λ (r : Line). difference_at both r.second) same
            ∙ difference_first a b names (line_at a k).second
            (omega (arith, line.second_earlier (sym (ap (λ (r : Line). uses_second (kind_of r.kind)) same) ∙ used)));
      })

  pub second_report : (k : ℕ) → k < line_count b → line_report both (line_count a + k) ≡ line_report b k
  second_report k l =
      let same = line_second a b names k l in
      let line = good_b.lines_right k l in
      reports_are_local both (line_count a + k) b k (record {
        width = can.same_width;
        kind = ap (λ (r : Line). r.kind) same;
        amount = ap (λ (r : Line). r.amount) same;
        constant = ap (λ (r : Line). r.constant) same;
        difference = ap (λ (r : Line). r.difference) same;
        first =
            ap (λ (r : Line). difference_at both r.first) same
            ∙ difference_second can (line_at b k).first (omega (arith, line.first_earlier));
        second = λ used.
            let two = sym (ap (λ (r : Line). uses_second (kind_of r.kind)) same) ∙ used in
            ap (λ (r : Line). difference_at both r.second) same
            ∙ ap (λ (t : Bool). difference_at both (cond t (joined_word a b names (line_at b k).second) 0)) two
            ∙ difference_second can (line_at b k).second (omega (arith, line.second_earlier two));
      })
