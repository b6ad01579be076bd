-- A sheet's report as text, a list of bytes (document 01, "The programs").
use Rattle.std.specs.Prelude.{ℕ, cond, List, [], ◌++◌, eqb}
use Rattle.words.specs.Below.{concat}
use Rattle.trail.specs.Trail.{Trail, line_count}
use Rattle.differential.specs.Report.{Report}
use Rattle.trail_reports.specs.Lines.{line_report}
use Rattle.trail_reports.specs.Totals.{Sums, sheet_totals}
use Rattle.decimal.specs.Ascii.{ascii}
use Rattle.decimal.specs.Decimal.{decimal, spaced}

-- the report's name, by its number in the report buffer; there is no report of another number
unfoldable pub name_text : ℕ → List ℕ
name_text number =
    cond (eqb number 0) (ascii "impossible")
    (cond (eqb number 1) (ascii "certain")
    (cond (eqb number 2) (ascii "halves")
    (cond (eqb number 3) (ascii "counted")
    [])))

-- per line: the line's number, the report's name, weight in sixteenths, chains, N, the numbers as in the report buffer
unfoldable pub line_text : ℕ → Report → List ℕ
line_text k r =
    decimal k ++ (ascii " " ++ (name_text r.number ++ (spaced r.weight ++ (spaced r.chains ++ (spaced r.fitting ++ ascii "\n")))))

-- then `total` with impossible lines, weight, chains
unfoldable pub totals_text : Sums → List ℕ
totals_text t = ascii "total" ++ (spaced t.impossible ++ (spaced t.weight ++ (spaced t.chains ++ ascii "\n")))

-- the whole report
unfoldable pub report_text : Trail → List ℕ
report_text t = concat (line_count t) (λ k. line_text k (line_report t k)) ++ totals_text (sheet_totals t)
