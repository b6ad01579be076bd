-- What each window costs, and its entry (document 02, W-209).
use Rattle.std.specs.Prelude.{ℕ, ◌+◌, ◌*◌, ◌<◌, ◌≤◌, ◌^◌, ◌≡◌, Bool, cond, not, List, ◌++◌, map, eqb, length, take, drop}
use Rattle.words.specs.Below.{concat}
use Rattle.buffers.specs.LittleEndian.{bytes_of}
use Rattle.trail.specs.declared.Line.{Line}
use Rattle.trail.specs.Trail.{Trail, line_count}
use Rattle.trail_reports.specs.Totals.{Sums, range_totals, sheet_totals}
use Rattle.sheet.specs.Fields.{trail_of}
use Rattle.sheet.specs.Questions.{IsAccepted}
use Rattle.round_windows.specs.Rounds.{StartsRight, round_line, window_lines, window_count}

-- the range totals of its lines: inside one window equal copies count once, and a line whose earlier copies all lie outside counts in full
abbrev pub window_totals : Trail → List ℕ → ℕ → ℕ → Sums
window_totals t starts r i = range_totals t (round_line t starts i) (window_lines t starts r i)

pub record Entry : Type 0 where
  pub weight : ℕ
  pub chains : ℕ
  pub mark : ℕ

-- a window with an impossible line has mark 1, other fields 0; other marks are 0
abbrev pub entry_of : Sums → Entry
entry_of s =
    cond (eqb s.impossible 0)
    (record { weight = s.weight; chains = s.chains; mark = 0 })
    (record { weight = 0; chains = 0; mark = 1 })

-- the window of r rounds from round i on
unfoldable pub entry : Trail → List ℕ → ℕ → ℕ → Entry
entry t starts r i = entry_of (window_totals t starts r i)

abbrev pub is_marked : Entry → Bool
is_marked e = not (eqb e.mark 0)

-- an entry takes 8 bytes: weight (32 bits), chains (16), mark (16)
abbrev pub entry_size : ℕ
entry_size = 8

unfoldable pub entry_bytes : Entry → List ℕ
entry_bytes e = bytes_of 4 e.weight ++ (bytes_of 2 e.chains ++ bytes_of 2 e.mark)

-- the entries of all windows, rounds rising from 0
unfoldable pub window_bytes : Trail → List ℕ → ℕ → List ℕ
window_bytes t starts r = concat (window_count starts r) (λ i. entry_bytes (entry t starts r i))

-- ---- each entry is the sum worked out for that window alone

-- The lines of a range alone: a trail of just these, to which all words before them are inputs.
unfoldable pub alone : Trail → ℕ → ℕ → Trail
alone t from lines = record {
  width = t.width;
  inputs = t.inputs ++ map (λ (l : Line). l.difference) (take from t.lines);
  lines = take lines (drop from t.lines);
}

-- of every accepted sheet: each window's totals are those of the trail that has its lines and no others
abbrev pub WindowsStandAlone : Type 0
WindowsStandAlone =
    (s starts : List ℕ) (r i : ℕ) → IsAccepted s → StartsRight (trail_of s) starts → 1 ≤ r → r ≤ length starts
    → i < window_count starts r
    → window_totals (trail_of s) starts r i ≡ sheet_totals (alone (trail_of s) (round_line (trail_of s) starts i) (window_lines (trail_of s) starts r i))

-- weight, chains and mark fit their fields
pub record EntryFits (e : Entry) : Type 0 where
  pub weight : e.weight < 2 ^ 32
  pub chains : e.chains < 2 ^ 16
  pub mark : e.mark < 2 ^ 16

abbrev pub EntriesFit : Type 0
EntriesFit =
    (s starts : List ℕ) (r i : ℕ) → IsAccepted s → StartsRight (trail_of s) starts → 1 ≤ r → r ≤ length starts
    → i < window_count starts r → EntryFits (entry (trail_of s) starts r i)
