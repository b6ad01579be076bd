-- The report buffer (document 01, "Line reports").
use Rattle.std.specs.Prelude.{ℕ, ◌*◌, List, ◌++◌}
use Rattle.words.specs.Below.{concat}
use Rattle.buffers.specs.LittleEndian.{bytes_of}
use Rattle.trail.specs.Trail.{Trail, line_count}
use Rattle.differential.specs.Report.{Report}
use Rattle.trail_reports.specs.Lines.{line_report}

-- the report buffer takes 16 bytes a line
abbrev pub report_size : ℕ
report_size = 16

-- the report's number (8 bits); zero (8); chains (16 bits); weight in sixteenths (32); N (64)
unfoldable pub field_bytes : ℕ → ℕ → ℕ → ℕ → List ℕ
field_bytes number chains weight fitting =
    bytes_of 1 number ++ (bytes_of 1 0 ++ (bytes_of 2 chains ++ (bytes_of 4 weight ++ bytes_of 8 fitting)))

abbrev pub report_bytes : Report → List ℕ
report_bytes r = field_bytes r.number r.chains r.weight r.fitting

-- the reports of all lines, one after the other
unfoldable pub sheet_bytes : Trail → List ℕ
sheet_bytes t = concat (line_count t) (λ k. report_bytes (line_report t k))

-- the bytes that the reports of a number of lines take
abbrev pub bytes_needed : ℕ → ℕ
bytes_needed lines = report_size * lines
