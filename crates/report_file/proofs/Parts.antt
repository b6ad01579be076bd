-- The report is its parts in order, and each part of an accepted sheet's report is short.
use Prim.Native.Nat.{ℕ, suc, ◌+◌, ◌^◌, ◌≤◌, ◌<◌}
use native.Mathlib.Numerals.{add-one}
use native.Mathlib.Decide.{dec_lt}
use native.Mathlib.Omega.{arith}
use mathlib.Core.Path.{◌≡◌, sym, ap}
use mathlib.Core.Bool.{Bool, true, false, cond}
use mathlib.Core.List.{List, ◌++◌}
use borrow.Author.Tests.{lt-ltb, le-ltb}
use lib.Dec.{eqb}
use lib.ListN.{length, length-append}
use Rattle.words.specs.Below.{concat}
use Rattle.words.proofs.Below.{concat_cong}
use Rattle.trail.specs.Trail.{Trail, line_count}
use Rattle.decimal.specs.Ascii.{ascii}
use Rattle.decimal.specs.Decimal.{spaced}
use Rattle.decimal.proofs.Decimals.{length_most_lem}
use Rattle.decimal.proofs.Writing.{length_spaced}
use Rattle.differential.specs.Report.{Report}
use Rattle.sheet.specs.Facts.{SheetRead}
use Rattle.sheet.specs.Fields.{trail_of}
use Rattle.sheet.specs.Questions.{IsAccepted}
use Rattle.sheet.specs.declared.Header.{Header}
use Rattle.sheet.specs.declared.Mode.TheVariants.{Read}
use Rattle.sheet.proofs.WellFormed.{accepted_sized}
use Rattle.trail_reports.specs.Lines.{line_report}
use Rattle.trail_reports.specs.Totals.{Sums, sheet_totals, SmallReport}
use Rattle.trail_reports.proofs.Demand2.{sheet_report_small}
use Rattle.trail_reports.proofs.RangeTotals.{SmallSums, totals_small}
use Rattle.report_file.specs.Text.{name_text, line_text, totals_text, report_text}
use Rattle.report_file.specs.Parts.{report_part, most_bytes, ReportIsItsParts, PartsAreWithin}

-- ---- the parts

pub line_part : (t : Trail) (k : ℕ) → k < line_count t → report_part t k ≡ line_text k (line_report t k)
unfolding report_part
line_part t k l = rw lt-ltb

pub totals_part : (t : Trail) (k : ℕ) → line_count t ≤ k → report_part t k ≡ totals_text (sheet_totals t)
unfolding report_part
totals_part t k l = rw le-ltb

pub report_is_its_parts : ReportIsItsParts
unfolding report_text concat
report_is_its_parts t =
    rw (add-one, totals_part t (line_count t) (omega arith))
    (ap (λ (l : List ℕ). l ++ totals_text (sheet_totals t)) (concat_cong (line_count t) _ _ (λ k l. sym (line_part t k l))))

-- ---- how long they are

either_short : (b : Bool) (x y : List ℕ) {most : ℕ} → length x ≤ most → length y ≤ most → length (cond b x y) ≤ most
either_short true x y h g = h
either_short false x y h g = g

-- the longest name is `impossible`
name_short : (number : ℕ) → length (name_text number) ≤ 10
unfolding name_text ascii
name_short number =
    either_short (eqb number 0) _ _ (omega arith)
    (either_short (eqb number 1) _ _ (omega arith)
    (either_short (eqb number 2) _ _ (omega arith)
    (either_short (eqb number 3) _ _ (omega arith)
    (omega arith))))

-- a number of at most d + 1 digits, after a blank
spaced_short : (d v : ℕ) → v < 10 ^ suc d → length (spaced v) ≤ 2 + d
spaced_short d v h = omega (arith, length_spaced v, length_most_lem d v h)

-- at most 248 lines; weight, chains and N of widths up to 32: 3, 3, 2 and 10 digits
line_text_short : (k : ℕ) (r : Report) → k < 248 → SmallReport r → length (line_text k r) ≤ most_bytes
unfolding line_text ascii
line_text_short k r l small =
    let number = length_most_lem 2 k (omega arith) in
    let name = name_short r.number in
    let weight = spaced_short 2 r.weight (omega (arith, small.weight)) in
    let chains = spaced_short 1 r.chains (omega (arith, small.chains)) in
    let fitting = spaced_short 9 r.fitting (omega (arith, small.fitting)) in
    simp length-append (omega arith)

-- the totals of at most 248 lines: 3, 6 and 4 digits
totals_text_short : (k : ℕ) (t : Sums) → k ≤ 248 → SmallSums k t → length (totals_text t) ≤ most_bytes
unfolding totals_text ascii
totals_text_short k t l small =
    let impossible = spaced_short 2 t.impossible (omega (arith, small.impossible)) in
    let weight = spaced_short 5 t.weight (omega (arith, small.weight)) in
    let chains = spaced_short 3 t.chains (omega (arith, small.chains)) in
    simp length-append (omega arith)

module _ (s : List ℕ) (accepted : IsAccepted s) where
  pub line_short : (k : ℕ) → k < line_count (trail_of s) → length (line_text k (line_report (trail_of s) k)) ≤ most_bytes
  line_short k l =
      line_text_short k (line_report (trail_of s) k) (omega (arith, (accepted_sized Read s accepted).lines_most))
      (sheet_report_small s accepted k l)

  pub totals_short : length (totals_text (sheet_totals (trail_of s))) ≤ most_bytes
  totals_short =
      totals_text_short (line_count (trail_of s)) (sheet_totals (trail_of s)) (accepted_sized Read s accepted).lines_most
      (totals_small (trail_of s) 0 (line_count (trail_of s)) (λ i l. sheet_report_small s accepted (0 + i) (omega arith)))

pub parts_are_within : PartsAreWithin
parts_are_within s accepted part most = at (dec_lt part (line_count (trail_of s)))
  where
    at : Dec (part < line_count (trail_of s)) → length (report_part (trail_of s) part) ≤ most_bytes
    at (yes l) = rw (line_part (trail_of s) part l) (line_short s accepted part l)
    at (no g) = rw (totals_part (trail_of s) part (omega arith)) (totals_short s accepted)

-- ---- what the writers of the parts require, of a sheet that was read

module _ (s : List ℕ) (h : Header) (read : SheetRead s h) where
  pub line_fits : (k : ℕ) → k < h.lines → {r : Report} → r ≡ line_report (trail_of s) k → {room : ℕ} → most_bytes ≤ room
      → (length (line_text k r) ≤ room) × SmallReport r
  line_fits k l e most =
      let less : k < line_count (trail_of s) = omega (arith, read.lines) in
      rw e (omega (arith, line_short s read.accepted k less), sheet_report_small s read.accepted k less)

  pub totals_fit : {t : Sums} → t ≡ sheet_totals (trail_of s) → {room : ℕ} → most_bytes ≤ room → length (totals_text t) ≤ room
  totals_fit e most = rw e (omega (arith, totals_short s read.accepted))
