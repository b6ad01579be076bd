-- A line's differential with one stated difference replaced, put together from the one that was read and three tests.
use Prim.Native.Nat.{ℕ, ◌+◌, ◌^◌, ◌<◌, ◌≤◌}
use native.Mathlib.Omega.{arith}
use mathlib.Core.Path.{◌≡◌, sym, ap, ap₂, subst, ◌∙◌}
use mathlib.Core.Bool.{cond}
use mathlib.Core.List.{List}
use lib.Dec.{eqb}
use Rattle.trail.specs.declared.Line.{Line}
use Rattle.trail.specs.Trail.{Trail, input_count, line_count, line_at, difference_at}
use Rattle.trail.specs.Changing.{stating, with_difference}
use Rattle.trail.proofs.Changed.{difference_tested, line_tested}
use Rattle.differential.specs.declared.Differential.{Differential}
use Rattle.differential.specs.Demand2.{Proper}
use Rattle.differential.specs.Report.{Report}
use Rattle.sheet.specs.Fields.{trail_of}
use Rattle.sheet.specs.Facts.{SheetRead}
use Rattle.sheet.specs.declared.Header.{Header}
use Rattle.changed_sheets.specs.ChangedSheet.{changed_sheet}
use Rattle.changed_sheets.proofs.Changed.{changed_read, read_trail}
use Rattle.trail_reports.specs.Lines.{differential_of, line_report}
use Rattle.trail_reports.specs.Totals.{SmallReport}
use Rattle.trail_reports.proofs.Demand2.{sheet_report_small}
use Rattle.trail_reports.proofs.ProperLines.{report_asks}

-- a differential of which three differences are chosen anew
abbrev pub rechosen : Differential → ℕ → ℕ → ℕ → Differential
rechosen e stated first second = record { width = e.width; line = stating e.line stated; first = first; second = second }

module _ {s : List ℕ} {h : Header} (read : SheetRead s h) (k d : ℕ) (known : k < h.lines) where
  abbrev t : Trail
  t = trail_of s

  there : k < line_count t
  there = omega (arith, read.lines)

  -- what the code asks of a word j with the difference x
  tested : (j x : ℕ) → cond (eqb j (h.inputs + k)) d x ≡ cond (eqb j (input_count t + k)) d x
  tested j x = ap (λ (m : ℕ). cond (eqb j (m + k)) d x) (sym read.inputs)

  module _ (i : ℕ) {e : Differential} (is : e ≡ differential_of t i) where
    operand : (j : ℕ) {x : ℕ} → x ≡ difference_at t j → cond (eqb j (h.inputs + k)) d x ≡ difference_at (with_difference t k d) j
    operand j {x} same = tested j x ∙ ap (λ (z : ℕ). cond (eqb j (input_count t + k)) d z) same ∙ sym (difference_tested t k d there j)

    pub differential_changed : {stated first second : ℕ} → stated ≡ cond (eqb (h.inputs + i) (h.inputs + k)) d e.line.difference
        → first ≡ cond (eqb e.line.first (h.inputs + k)) d e.first
        → second ≡ cond (eqb e.line.second (h.inputs + k)) d e.second
        → rechosen e stated first second ≡ differential_of (with_difference t k d) i
    unfolding differential_of
    differential_changed {stated} {first} {second} p q r =
        let line_is : e.line ≡ line_at t i = ap (λ (z : Differential). z.line) is in
        let width = ap (λ (z : Differential). z.width) is in
        let chosen : stated ≡ cond (eqb (input_count t + i) (input_count t + k)) d (line_at t i).difference =
        p ∙ ap₂ (λ (m : ℕ) (l : Line). cond (eqb (m + i) (m + k)) d l.difference) (sym read.inputs) line_is in
        let line : stating e.line stated ≡ line_at (with_difference t k d) i =
        ap₂ stating line_is chosen ∙ sym (line_tested t k d there i) in
        let one = q ∙ operand e.line.first (ap (λ (z : Differential). z.first) is ∙ ap (λ (l : Line). difference_at t l.first) (sym line_is)) ∙ ap (λ (l : Line). difference_at (with_difference t k d) l.first) line in
        let two = r ∙ operand e.line.second (ap (λ (z : Differential). z.second) is ∙ ap (λ (l : Line). difference_at t l.second) (sym line_is)) ∙ ap (λ (l : Line). difference_at (with_difference t k d) l.second) line in
        λ j. record { width = width j; line = line j; first = one j; second = two j }

  -- ---- what its report asks and is

  module _ (word : d < 2 ^ h.width) (i : ℕ) (less : i < h.lines) where
    pub changed_asks : {e : Differential} → e ≡ differential_of (with_difference t k d) i → Proper e × (e.width ≤ 32)
    changed_asks is =
        report_asks (changed_read read known word) i less (is ∙ ap (λ (u : Trail). differential_of u i) (sym (read_trail read known word)))

    pub changed_small : {m : Report} → m ≡ line_report (with_difference t k d) i → SmallReport m
    changed_small is =
        subst SmallReport (sym (is ∙ ap (λ (u : Trail). line_report u i) (sym (read_trail read known word))))
        (sheet_report_small (changed_sheet s k d) (changed_read read known word).accepted i (omega (arith, (changed_read read known word).lines)))
