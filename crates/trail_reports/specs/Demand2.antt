-- Demand 2 for sheets.
use Rattle.std.specs.Prelude.{ℕ, ◌^◌, ◌<◌, ◌≡◌, true, List}
use Rattle.trail.specs.Kinds.{kind_of, uses_second}
use Rattle.trail.specs.Trail.{Trail, line_count, line_at, difference_at}
use Rattle.trail.specs.Repeats.{equal_lines}
use Rattle.differential.specs.Demand2.{RightReport}
use Rattle.sheet.specs.Fields.{trail_of}
use Rattle.sheet.specs.Questions.{IsAccepted}
use Rattle.trail_reports.specs.Lines.{differential_of, line_report}

-- for every accepted sheet and every line number below L, the line's report is right
abbrev pub SheetReportsAreRight : Type 0
SheetReportsAreRight = (s : List ℕ) → IsAccepted s → (k : ℕ) → k < line_count (trail_of s) → RightReport (differential_of (trail_of s) k) (line_report (trail_of s) k)

-- A line's report depends on n, its own record and the differences of the words it names, and on nothing else in the sheet: of its
-- record not on the operands' numbers, and on the second difference only for the kinds that use the second operand.
pub record SameLine (t : Trail) (k : ℕ) (r : Trail) (l : ℕ) : Type 0 where
  pub width : t.width ≡ r.width
  pub kind : (line_at t k).kind ≡ (line_at r l).kind
  pub amount : (line_at t k).amount ≡ (line_at r l).amount
  pub constant : (line_at t k).constant ≡ (line_at r l).constant
  pub difference : (line_at t k).difference ≡ (line_at r l).difference
  pub first : difference_at t (line_at t k).first ≡ difference_at r (line_at r l).first
  pub second : uses_second (kind_of (line_at t k).kind) ≡ true → difference_at t (line_at t k).second ≡ difference_at r (line_at r l).second

abbrev pub ReportsAreLocal : Type 0
ReportsAreLocal = (t : Trail) (k : ℕ) (r : Trail) (l : ℕ) → SameLine t k r l → line_report t k ≡ line_report r l

-- So a copy's report is the same (document 02, W-202), and a copy of an impossible line is impossible too.
abbrev pub CopiesReportAlike : Type 0
CopiesReportAlike = (t : Trail) (i k : ℕ) → equal_lines (line_at t i) (line_at t k) ≡ true → line_report t i ≡ line_report t k

-- weight, chains and N of an accepted sheet fit their fields of the report buffer
pub record FieldsFit (t : Trail) (k : ℕ) : Type 0 where
  pub chains : (line_report t k).chains < 2 ^ 16
  pub weight : (line_report t k).weight < 2 ^ 32
  pub fitting : (line_report t k).fitting < 2 ^ 64

abbrev pub SheetFieldsFit : Type 0
SheetFieldsFit = (s : List ℕ) → IsAccepted s → (k : ℕ) → k < line_count (trail_of s) → FieldsFit (trail_of s) k
