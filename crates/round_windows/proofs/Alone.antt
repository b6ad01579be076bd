-- The lines of a range by themselves: the same lines and reports, and so the same totals.
use Prim.Native.Nat.{ℕ, ◌+◌, ◌-◌, ◌<◌, ◌≤◌}
use native.Mathlib.Decide.{dec_lt}
use native.Mathlib.Nat.{zero-add}
use native.Mathlib.Omega.{arith}
use mathlib.Core.Path.{◌≡◌, refl, sym, ap, ◌∙◌}
use mathlib.Core.List.{List, map}
use lib.ListN.{length, get_or, take, drop, length-append, length-map, length-drop, get_or-append, get_or-map}
use lib.Seq.{length-take-le, get_or-take, get_or-drop, get_or-append-add}
use Rattle.words.proofs.Below.{below_or_past}
use Rattle.trail.specs.declared.Line.{Line}
use Rattle.trail.specs.Trail.{Trail, input_count, line_count, no_line, line_at, difference_at}
use Rattle.trail.specs.WellFormed.{WellFormed}
use Rattle.trail.proofs.Differences.{difference_input, difference_line}
use Rattle.trail_reports.specs.Lines.{line_report}
use Rattle.trail_reports.specs.Totals.{range_totals, sheet_totals}
use Rattle.trail_reports.specs.Demand2.{SameLine}
use Rattle.trail_reports.proofs.RangeTotals.{ranges_are_local}
use Rattle.trail_reports.proofs.Demand2.{reports_are_local}
use Rattle.sheet.specs.declared.Mode.TheVariants.{Read}
use Rattle.sheet.proofs.WellFormed.{accepted_well_formed}
use Rattle.round_windows.specs.Windows.{alone, WindowsStandAlone}
use Rattle.round_windows.proofs.Rounds.{windows_are_right}

module _ (t : Trail) (from lines : ℕ) (inside : from + lines ≤ line_count t) where
  abbrev stated : Line → ℕ
  stated l = l.difference

  width_alone : t.width ≡ (alone t from lines).width
  unfolding alone
  width_alone = refl

  -- its lines

  count_alone : line_count (alone t from lines) ≡ lines
  unfolding alone
  count_alone = length-take-le lines (drop from t.lines) (omega (arith, length-drop from t.lines))

  line_alone : (k : ℕ) → k < lines → line_at (alone t from lines) k ≡ line_at t (from + k)
  unfolding alone line_at
  line_alone k l = get_or-take lines (drop from t.lines) k no_line l ∙ get_or-drop from t.lines k no_line

  -- its words: those before the range are inputs

  abbrev before : List ℕ
  before = map stated (take from t.lines)

  inputs_alone : input_count (alone t from lines) ≡ input_count t + from
  unfolding alone
  inputs_alone =
      length-append t.inputs before
      ∙ omega (arith, length-map (take from t.lines) stated, length-take-le from t.lines (omega arith))

  word_alone : (j : ℕ) → j < input_count t + from + lines → difference_at (alone t from lines) j ≡ difference_at t j
  unfolding alone line_at
  word_alone j l =
      below_or_past (λ j. j < input_count t + from + lines → difference_at (alone t from lines) j ≡ difference_at t j) (input_count t)
      (λ j less _. input j less)
      (λ k. at k (dec_lt k from))
      j l
    where
      input : (j : ℕ) → j < input_count t → difference_at (alone t from lines) j ≡ difference_at t j
      input j less =
          difference_input (alone t from lines) j (omega (arith, inputs_alone))
          ∙ get_or-append t.inputs before 0 j less
          ∙ sym (difference_input t j less)

      at : (k : ℕ) → Dec (k < from) → input_count t + k < input_count t + from + lines
          → difference_at (alone t from lines) (input_count t + k) ≡ difference_at t (input_count t + k)
      at k (yes less) h =
          difference_input (alone t from lines) (input_count t + k) (omega (arith, inputs_alone))
          ∙ get_or-append-add t.inputs before k 0
          ∙ get_or-map stated (take from t.lines) k no_line
          ∙ ap stated (get_or-take from t.lines k no_line less)
          ∙ sym (difference_line t k)
      at k (no past) h =
          let there : input_count t + k ≡ input_count (alone t from lines) + (k - from) = omega (arith, inputs_alone) in
          let back : from + (k - from) ≡ k = omega arith in
          ap (difference_at (alone t from lines)) there
          ∙ difference_line (alone t from lines) (k - from)
          ∙ ap stated (line_alone (k - from) (omega arith))
          ∙ ap (λ (i : ℕ). (line_at t i).difference) back
          ∙ sym (difference_line t k)

  module _ (good : WellFormed t) where
    report_alone : (k : ℕ) → k < lines → line_report t (from + k) ≡ line_report (alone t from lines) k
    report_alone k l = reports_are_local t (from + k) (alone t from lines) k same
      where
        line : line_at t (from + k) ≡ line_at (alone t from lines) k
        line = sym (line_alone k l)

        right : Rattle.trail.specs.WellFormed.WellFormedLine t.width (input_count t + (from + k)) (line_at t (from + k))
        right = good.lines_right (from + k) (omega arith)

        same : SameLine t (from + k) (alone t from lines) k
        same = record {
          width = width_alone;
          kind = ap (λ (l : Line). l.kind) line;
          amount = ap (λ (l : Line). l.amount) line;
          constant = ap (λ (l : Line). l.constant) line;
          difference = ap (λ (l : Line). l.difference) line;
          first = sym (word_alone (line_at t (from + k)).first (omega (arith, right.first_earlier)))
              ∙ ap (λ (l : Line). difference_at (alone t from lines) l.first) line;
          second = λ used. sym (word_alone (line_at t (from + k)).second (omega (arith, right.second_earlier used)))
              ∙ ap (λ (l : Line). difference_at (alone t from lines) l.second) line;
        }

    pub range_alone : range_totals t from lines ≡ sheet_totals (alone t from lines)
    range_alone =
        ranges_are_local t from (alone t from lines) 0 lines
        (λ k l. sym (line_alone k l) ∙ ap (line_at (alone t from lines)) (sym (zero-add k)))
        (λ k l. report_alone k l ∙ ap (line_report (alone t from lines)) (sym (zero-add k)))
        ∙ ap (range_totals (alone t from lines) 0) (sym count_alone)

pub windows_stand_alone : WindowsStandAlone
windows_stand_alone s starts r i accepted right least most l =
    range_alone _ _ _ ((windows_are_right _ starts r right least most).each i l).inside (accepted_well_formed Read s accepted)
