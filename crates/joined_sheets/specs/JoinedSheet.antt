-- Joining two sheets (document 02, W-203): what is asked of them and of the names, and the joined sheet's bytes.
use Rattle.std.specs.Prelude.{ℕ, ◌+◌, List, [], ◌∷◌, eqb, leb}
use Rattle.trail.specs.Trail.{Trail, line_count}
use Rattle.trail.specs.WellFormed.{most_lines}
use Rattle.trail.specs.Joining.{joined, names_right}
use Rattle.sheet.specs.Asking.{Question, ask}
use Rattle.sheet.specs.Fields.{form_of, trail_of}
use Rattle.sheet_encoding.specs.Encoding.{sheet_of}

-- Place 0.
-- Are the widths the same? 20
-- Has the list as many names as the second has inputs, and does it name no word that the first has not, no word twice, and no word
-- whose difference is not the input's? 21
-- Are there at most 248 lines? 22
unfoldable pub join_questions : List ℕ → List ℕ → List ℕ → List Question
join_questions first second names =
    ask (eqb (trail_of first).width (trail_of second).width) 20 0
    ∷ ask (names_right (trail_of first) (trail_of second) names) 21 0
    ∷ ask (leb (line_count (trail_of first) + line_count (trail_of second)) most_lines) 22 0
    ∷ []

-- the joined trail of two sheets
abbrev pub joined_trail : List ℕ → List ℕ → List ℕ → Trail
joined_trail first second names = joined (trail_of first) (trail_of second) names

-- the joined sheet: the joined trail's, in the first's form, with the checks that sealing writes
unfoldable pub joined_sheet : List ℕ → List ℕ → List ℕ → List ℕ
joined_sheet first second names = sheet_of (form_of first) (joined_trail first second names)
