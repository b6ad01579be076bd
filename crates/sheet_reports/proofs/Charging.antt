-- The list of charged lines stands for the lines passed: a line that costs something is in it exactly if it repeats one of them.
use Prim.Native.Nat.{ℕ, ◌+◌, ◌*◌, ◌≤◌, ◌<◌}
use native.Mathlib.Omega.{arith}
use mathlib.Core.Path.{◌≡◌, refl, sym, ap, ap₂, ◌∙◌}
use mathlib.Core.Bool.{Bool, true, false, ◌&&◌, cond, and-eq-true_iff, false≢true}
use mathlib.Core.List.{List}
use lib.ListN.{length}
use Rattle.words.proofs.TruthTables.{same_test}
use Rattle.words.proofs.Below.{below_suc, Found, any_found, found_more, any_witness}
use Rattle.buffers.specs.Overwrite.{overwrite}
use Rattle.buffers.proofs.Overwrite.{overwrite_length}
use Rattle.trail.specs.declared.Line.{Line}
use Rattle.trail.specs.Trail.{Trail, line_at}
use Rattle.trail.specs.Repeats.{equal_lines, is_repeat}
use Rattle.trail.proofs.Repeats.{equal_lines_lem, lines_equal}
use Rattle.differential.specs.Report.{Report, report_means}
use Rattle.differential.specs.declared.LineReport.{LineReport}
use Rattle.listed_lines.specs.Listed.{line_numbers, numbers_of, stands_at, is_listed}
use Rattle.charged_lines.specs.Charged.{costs}
use Rattle.listed_lines.proofs.Listed.{stands_one, stands_written, stands_before}
use Rattle.trail_reports.specs.Lines.{line_report}
use Rattle.trail_reports.specs.Totals.{Sums, range_totals, with_report}
use Rattle.sheet_reports.proofs.Sums.{totals_repeat, totals_next}
use Rattle.trail_reports.proofs.Demand2.{copies_report_alike}

-- When k lines of the range that begins with line `from` are passed: each line of the list is one of them, and each of them that
-- costs something is in the list.
pub record Kept (t : Trail) (from k : ℕ) (s : List ℕ) (count : ℕ) : Type 0 where
  pub few : count ≤ k
  pub passed : (i : ℕ) → i < count → Found k (λ j. stands_at s (line_numbers * i) (numbers_of (line_at t (from + j))))
  pub known : (j : ℕ) → j < k → costs (line_report t (from + j)) ≡ true → is_listed s count (line_at t (from + j)) ≡ true

module _ {t : Trail} {from : ℕ} where
  pub kept_none : (s : List ℕ) → Kept t from 0 s 0
  kept_none s = record { few = omega arith; passed = λ i l. absurd (omega arith); known = λ j l. absurd (omega arith) }

  module _ {k : ℕ} {s : List ℕ} {count : ℕ} (kept : Kept t from k s count) where
    listed_repeats : is_listed s count (line_at t (from + k)) ≡ true → is_repeat t from k ≡ true
    unfolding is_listed is_repeat
    listed_repeats e =
        let here = any_witness count (λ i. stands_at s (line_numbers * i) (numbers_of (line_at t (from + k)))) e in
        let earlier = kept.passed here.number here.below in
        any_found k (λ i. equal_lines (line_at t (from + i)) (line_at t (from + k))) earlier.number earlier.below
        (lines_equal _ _ (stands_one s (line_numbers * here.number) _ _ earlier.passes here.passes))

    repeat_listed : costs (line_report t (from + k)) ≡ true → is_repeat t from k ≡ true → is_listed s count (line_at t (from + k)) ≡ true
    unfolding is_repeat
    repeat_listed dear e =
        let w = any_witness k (λ i. equal_lines (line_at t (from + i)) (line_at t (from + k))) e in
        let same = equal_lines_lem (line_at t (from + w.number)) (line_at t (from + k)) w.passes in
        ap (is_listed s count) (sym same)
        ∙ kept.known w.number w.below (ap costs (copies_report_alike t (from + w.number) (from + k) w.passes) ∙ dear)

    -- what the code asks of a line is whether it is a repeat, of the lines that cost something
    pub asked_repeat : (costs (line_report t (from + k)) && is_listed s count (line_at t (from + k)))
        ≡ (costs (line_report t (from + k)) && is_repeat t from k)
    asked_repeat = at (costs (line_report t (from + k))) refl
      where
        at : (dear : Bool) → costs (line_report t (from + k)) ≡ dear
            → (dear && is_listed s count (line_at t (from + k))) ≡ (dear && is_repeat t from k)
        at false e = refl
        at true e = same_test (is_listed s count (line_at t (from + k))) (is_repeat t from k) listed_repeats (repeat_listed e)

    -- one line more, which is in the list or costs nothing
    pub kept_pass : (costs (line_report t (from + k)) ≡ true → is_listed s count (line_at t (from + k)) ≡ true) → Kept t from (k + 1) s count
    kept_pass here = record {
      few = omega (arith, kept.few);
      passed = λ i l. found_more (kept.passed i l);
      known = λ j l.
          below_suc (λ j. costs (line_report t (from + j)) ≡ true → is_listed s count (line_at t (from + j)) ≡ true) k kept.known here j
          (omega arith);
    }

    -- one line more, written behind the others
    kept_written : line_numbers * count + line_numbers ≤ length s
        → Kept t from (k + 1) (overwrite (line_numbers * count) (numbers_of (line_at t (from + k))) s) (count + 1)
    unfolding is_listed
    kept_written room = record {
      few = omega (arith, kept.few);
      passed = λ i l. below_suc (λ i. Found (k + 1) (λ j. stands_at then (line_numbers * i) (numbers_of (line_at t (from + j))))) count old_passed new_passed i (omega arith);
      known = λ j l dear.
          below_suc (λ j. costs (line_report t (from + j)) ≡ true → is_listed then (count + 1) (line_at t (from + j)) ≡ true) k old_known new_known j (omega arith) dear;
    }
      where
        then : List ℕ
        then = overwrite (line_numbers * count) (numbers_of (line_at t (from + k))) s

        new : stands_at then (line_numbers * count) (numbers_of (line_at t (from + k))) ≡ true
        new = stands_written s (line_numbers * count) (line_at t (from + k)) room

        old : (i : ℕ) → i < count → (l : Line) → stands_at s (line_numbers * i) (numbers_of l) ≡ true → stands_at then (line_numbers * i) (numbers_of l) ≡ true
        old i h l e = stands_before s (line_numbers * count) (line_at t (from + k)) room (line_numbers * i) l (omega arith) ∙ e

        old_passed : (i : ℕ) → i < count → Found (k + 1) (λ j. stands_at then (line_numbers * i) (numbers_of (line_at t (from + j))))
        old_passed i h =
            let w = kept.passed i h in
            record { number = w.number; below = omega (arith, w.below); passes = old i h (line_at t (from + w.number)) w.passes }

        new_passed : Found (k + 1) (λ j. stands_at then (line_numbers * count) (numbers_of (line_at t (from + j))))
        new_passed = record { number = k; below = omega arith; passes = new }

        is_there : (l : Line) (i : ℕ) → i < count + 1 → stands_at then (line_numbers * i) (numbers_of l) ≡ true → is_listed then (count + 1) l ≡ true
        is_there l i = any_found (count + 1) (λ i. stands_at then (line_numbers * i) (numbers_of l)) i

        old_known : (j : ℕ) → j < k → costs (line_report t (from + j)) ≡ true → is_listed then (count + 1) (line_at t (from + j)) ≡ true
        old_known j l dear =
            let w = any_witness count (λ i. stands_at s (line_numbers * i) (numbers_of (line_at t (from + j)))) (kept.known j l dear) in
            is_there (line_at t (from + j)) w.number (omega (arith, w.below)) (old w.number w.below (line_at t (from + j)) w.passes)

        new_known : costs (line_report t (from + k)) ≡ true → is_listed then (count + 1) (line_at t (from + k)) ≡ true
        new_known dear = is_there (line_at t (from + k)) count (omega arith) new

    -- a line that is no repeat is written behind the others if it costs something
    pub kept_charge : line_numbers * count + line_numbers ≤ length s
        → Kept t from (k + 1)
        (cond (costs (line_report t (from + k))) (overwrite (line_numbers * count) (numbers_of (line_at t (from + k))) s) s)
        (cond (costs (line_report t (from + k))) (count + 1) count)
    kept_charge room = at (costs (line_report t (from + k))) refl
      where
        at : (dear : Bool) → costs (line_report t (from + k)) ≡ dear
            → Kept t from (k + 1) (cond dear (overwrite (line_numbers * count) (numbers_of (line_at t (from + k))) s) s) (cond dear (count + 1) count)
        at true e = kept_written room
        at false e = kept_pass (λ dear. absurd (false≢true (sym e ∙ dear)))

-- One line of the range more, with the line and the report that the code has read and made: a repeat,
module _ {t : Trail} {from k : ℕ} {s : List ℕ} {count : ℕ} {sums : Sums} (kept : Kept t from k s count) (totals : sums ≡ range_totals t from k)
    {l : Line} (line : l ≡ line_at t (from + k)) (r : LineReport) (means : report_means r ≡ line_report t (from + k)) where
  asked : (costs (report_means r) && is_listed s count l) ≡ (costs (line_report t (from + k)) && is_repeat t from k)
  asked = ap₂ (λ (z : Report) (q : Line). costs z && is_listed s count q) means line ∙ asked_repeat kept

  pub repeat_passed : (costs (report_means r) && is_listed s count l) ≡ true
      → (sums ≡ range_totals t from (k + 1)) × Kept t from (k + 1) s count
  repeat_passed e = (
    totals ∙ totals_repeat t from k (sym asked ∙ e),
    kept_pass kept (λ dear. ap (is_listed s count) (sym line) ∙ ((and-eq-true_iff (costs (report_means r)) (is_listed s count l)).0 e).1),
  )

  -- or another, which is written behind the charged ones if it costs something
  pub other_passed : (costs (report_means r) && is_listed s count l) ≡ false → line_numbers * count + line_numbers ≤ length s
      → {then : List ℕ} {more : ℕ} → more ≡ cond (costs (report_means r)) (count + 1) count
      → then ≡ cond (costs (report_means r)) (overwrite (line_numbers * count) (numbers_of l) s) s
      → (with_report sums (report_means r) ≡ range_totals t from (k + 1)) × Kept t from (k + 1) then more × (length then ≡ length s)
  other_passed e room more then = (
    ap₂ with_report totals means ∙ totals_next t from k r means (sym asked ∙ e),
    rw (more, then, means, line) (kept_charge kept room),
    ap length then ∙ kept_length (costs (report_means r)),
  )
    where
      kept_length : (dear : Bool) → length (cond dear (overwrite (line_numbers * count) (numbers_of l) s) s) ≡ length s
      kept_length true = overwrite_length (line_numbers * count) (numbers_of l) s room
      kept_length false = refl
