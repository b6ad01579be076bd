-- The report of each line of a trail (document 01, "Line reports").
use Rattle.std.specs.Prelude.{ℕ}
use Rattle.trail.specs.Trail.{Trail, line_at, difference_at}
use Rattle.differential.specs.declared.Differential.{Differential}
use Rattle.differential.specs.Report.{Report, report_of}

-- line k's differential: n, its own record, and the differences of the words that it names
unfoldable pub differential_of : Trail → ℕ → Differential
differential_of t k = record {
  width = t.width;
  line = line_at t k;
  first = difference_at t (line_at t k).first;
  second = difference_at t (line_at t k).second;
}

unfoldable pub line_report : Trail → ℕ → Report
line_report t k = report_of (differential_of t k)
