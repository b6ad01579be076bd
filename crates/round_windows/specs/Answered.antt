-- What the call for the windows answers, and what it has written then (document 02, W-209).
use Rattle.std.specs.Prelude.{ℕ, ◌+◌, ◌*◌, ◌-◌, ◌<◌, ◌≤◌, ◌≡◌, ◌⊎◌, ◌≢◌, List, length, take, drop}
use Rattle.buffers.specs.LittleEndian.{number_at}
use Rattle.sheet.specs.Asking.{verdict}
use Rattle.sheet.specs.Asking.Verdict.{accepted, refused}
use Rattle.sheet.specs.Fields.{header_of, trail_of}
use Rattle.sheet.specs.Questions.{questions, IsAccepted}
use Rattle.sheet.specs.declared.Mode.TheVariants.{Read}
use Rattle.trail_reports.specs.Totals.{Sums}
use Rattle.round_windows.specs.Rounds.{StartsRight}
use Rattle.round_windows.specs.Windows.{window_totals, entry}
use Rattle.round_windows.specs.Least.{LeastRight, windows_least}
use Rattle.round_windows.specs.WindowsCall.{windows_call}

-- what stands at an entry's place: the totals of its window, if no line of it is impossible, and mark 0; else mark 1 and zeros
pub record EntryStands (b : List ℕ) (at : ℕ) (w : Sums) : Type 0 where
  pub weight : w.impossible ≡ 0 → number_at 4 b at ≡ w.weight
  pub chains : w.impossible ≡ 0 → number_at 2 b (at + 4) ≡ w.chains
  pub unmarked : w.impossible ≡ 0 → number_at 2 b (at + 6) ≡ 0
  pub no_weight : w.impossible ≢ 0 → number_at 4 b at ≡ 0
  pub no_chains : w.impossible ≢ 0 → number_at 2 b (at + 4) ≡ 0
  pub marked : w.impossible ≢ 0 → number_at 2 b (at + 6) ≡ 1

-- A call that was not refused counts the windows. Entry i is that of the window from round i on, 8 bytes each; three numbers say the
-- least. The rest of both buffers is kept.
pub record WindowsMade (s starts : List ℕ) (r : ℕ) (out least : List ℕ) (n : ℕ) : Type 0 where
  pub count : n + r ≡ length starts + 1
  pub each : (i : ℕ) → i < n → EntryStands (windows_call s starts r out least).entries (8 * i) (window_totals (trail_of s) starts r i)
  pub rest : drop (8 * n) (windows_call s starts r out least).entries ≡ drop (8 * n) out
  pub least_told : take 3 (windows_call s starts r out least).least ≡ windows_least (trail_of s) starts r
  pub least_right : LeastRight (entry (trail_of s) starts r) n
  pub least_rest : drop 3 (windows_call s starts r out least).least ≡ drop 3 least

-- a refused call writes nothing
pub record WindowsKept (s starts : List ℕ) (r : ℕ) (out least : List ℕ) : Type 0 where
  pub entries : (windows_call s starts r out least).entries ≡ out
  pub least_kept : (windows_call s starts r out least).least ≡ least

-- Refusals in their order: those of the reading, then 27, then 28, then 18, place 0.
pub record WindowsAnswered (s starts : List ℕ) (r : ℕ) (out least : List ℕ) : Type 0 where
  pub by_reading : (n p : ℕ) → verdict (questions Read s) (header_of s) ≡ refused n p → (windows_call s starts r out least).answer ≡ refused n p
  pub wrong_starts : IsAccepted s → (StartsRight (trail_of s) starts → ⊥) → (windows_call s starts r out least).answer ≡ refused 27 0
  pub wrong_rounds : IsAccepted s → StartsRight (trail_of s) starts → (r ≡ 0) ⊎ (length starts < r)
      → (windows_call s starts r out least).answer ≡ refused 28 0
  pub too_short : IsAccepted s → StartsRight (trail_of s) starts → 1 ≤ r → r ≤ length starts
      → (length out < 8 * (length starts - r + 1)) ⊎ (length least < 3)
      → (windows_call s starts r out least).answer ≡ refused 18 0
  pub passes : IsAccepted s → StartsRight (trail_of s) starts → 1 ≤ r → r ≤ length starts
      → 8 * (length starts - r + 1) ≤ length out → 3 ≤ length least
      → (windows_call s starts r out least).answer ≡ accepted (length starts - r + 1)
  pub made : (n : ℕ) → (windows_call s starts r out least).answer ≡ accepted n → WindowsMade s starts r out least n
  pub kept : (n p : ℕ) → (windows_call s starts r out least).answer ≡ refused n p → WindowsKept s starts r out least

-- for all bytes, starts, numbers of rounds and buffers
abbrev pub WindowsAnswerInOrder : Type 0
WindowsAnswerInOrder = (s starts : List ℕ) (r : ℕ) (out least : List ℕ) → WindowsAnswered s starts r out least
