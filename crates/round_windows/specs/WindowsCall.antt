-- What the call for the windows comes to (document 02, W-209).
use Rattle.std.specs.Prelude.{ℕ, ◌&&◌, List, [], ◌∷◌, ◌++◌, leb, length}
use Rattle.trail.specs.Trail.{Trail}
use Rattle.sheet.specs.Asking.{Question, ask, Verdict, verdict}
use Rattle.sheet.specs.Fields.{trail_of}
use Rattle.sheet.specs.Questions.{questions, within}
use Rattle.sheet.specs.declared.Mode.TheVariants.{Read}
use Rattle.answers.specs.Calls.{writing}
use Rattle.round_windows.specs.Rounds.{starts_right, window_count}
use Rattle.round_windows.specs.Windows.{window_bytes}
use Rattle.round_windows.specs.Least.{windows_least}

-- Do the starts rise, begin with 0 and not pass the last line? 27
-- Is r from 1 to the number of rounds? 28
-- Are both buffers long enough for this very answer? 18
abbrev pub window_questions : Trail → List ℕ → ℕ → List ℕ → List ℕ → List Question
window_questions t starts r out least =
    ask (starts_right t starts) 27 0
    ∷ ask (within 1 (length starts) r) 28 0
    ∷ ask (leb (length (window_bytes t starts r)) (length out) && leb (length (windows_least t starts r)) (length least)) 18 0
    ∷ []

-- after the reading, in that order
abbrev pub windows_asks : List ℕ → List ℕ → ℕ → List ℕ → List ℕ → List Question
windows_asks s starts r out least = questions Read s ++ window_questions (trail_of s) starts r out least

-- its answer, and the two lent buffers afterwards
pub record WindowsCall : Type 0 where
  pub answer : Verdict ℕ
  pub entries : List ℕ
  pub least : List ℕ

-- the entries from the one buffer's start, and what is said of the least from the other's; the count is the entries'
unfoldable pub windows_call : List ℕ → List ℕ → ℕ → List ℕ → List ℕ → WindowsCall
windows_call s starts r out least = record {
  answer = verdict (windows_asks s starts r out least) (window_count starts r);
  entries = (writing (windows_asks s starts r out least) (window_bytes (trail_of s) starts r) out).buffer;
  least = (writing (windows_asks s starts r out least) (windows_least (trail_of s) starts r) least).buffer;
}
