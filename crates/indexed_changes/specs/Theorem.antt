-- Index and report kept beside a sheet that is changed (document 02, W-208).
use Rattle.std.specs.Prelude.{ℕ, ◌≡◌, List, [], ◌∷◌, take}
use Rattle.sheet.specs.Asking.Verdict.{accepted}
use Rattle.sheet.specs.Fields.{trail_of}
use Rattle.answers.specs.Calls.{Call}
use Rattle.report_buffer.specs.Buffer.{sheet_bytes}
use Rattle.report.specs.Answers.{reports_call}
use Rattle.sheet_indexes.specs.Index.{index_of}
use Rattle.sheet_indexes.specs.IndexCall.{index_call}
use Rattle.changed_sheets.specs.ChangeCall.{change_call}
use Rattle.change_lists.specs.Pairs.{Pair}
use Rattle.change_lists.specs.Applied.{sheet_after}
use Rattle.indexed_changes.specs.IndexedCall.{indexed_call, indexed_sheet}

-- the sheet's own index and report, made afresh
abbrev pub own_index : List ℕ → List ℕ
own_index s = index_of (trail_of s)

abbrev pub own_report : List ℕ → List ℕ
own_report s = sheet_bytes (trail_of s)

-- What the index's call and the report buffer's call write is the sheet's own.
pub record MadeByCalls (s out : List ℕ) : Type 0 where
  pub index : (n : ℕ) → (index_call s out).answer ≡ accepted n → take n (index_call s out).buffer ≡ own_index s
  pub report : (n : ℕ) → (reports_call s out).answer ≡ accepted n → take n (reports_call s out).buffer ≡ own_report s

-- whatever the sheet and the buffer
abbrev pub OwnIsMadeByCalls : Type 0
OwnIsMadeByCalls = (s out : List ℕ) → MadeByCalls s out

-- ---- one call

-- Lent the sheet's own, the call answers and leaves the sheet as the change call does. Index and report are then again the sheet's own:
-- the report is renewed, and the index does not change at all.
pub record OwnCall (s : List ℕ) (k d : ℕ) : Type 0 where
  pub answer : (indexed_call s (own_index s) (own_report s) k d).answer ≡ (change_call s k d).answer
  pub sheet : indexed_sheet s (own_index s) (own_report s) k d ≡ (change_call s k d).buffer
  pub report : (indexed_call s (own_index s) (own_report s) k d).buffer ≡ own_report (change_call s k d).buffer
  pub index : own_index (change_call s k d).buffer ≡ own_index s

-- whatever the sheet, line and difference: refused or not
abbrev pub OwnStaysOwn : Type 0
OwnStaysOwn = (s : List ℕ) (k d : ℕ) → OwnCall s k d

-- ---- a list of calls

-- what the calls are lent, and change
pub record Lent : Type 0 where
  pub sheet : List ℕ
  pub report : List ℕ

-- a sheet with its own report
abbrev pub own : List ℕ → Lent
own s = record { sheet = s; report = own_report s }

-- one call lent both, and the index
abbrev pub after_call : List ℕ → Lent → Pair → Lent
after_call index l p = record {
  sheet = indexed_sheet l.sheet index l.report p.line p.difference;
  report = (indexed_call l.sheet index l.report p.line p.difference).buffer;
}

-- the calls of a list, one after the other, all lent the same index
unfoldable pub after_calls : List ℕ → Lent → List Pair → Lent
after_calls index l [] = l
after_calls index l (p ∷ ps) = after_calls index (after_call index l p) ps

-- Starting from the sheet's own, index and report are those made afresh after any list of calls, and the sheet is the one that the
-- change calls leave.
pub record OwnAfter (s : List ℕ) (ps : List Pair) : Type 0 where
  pub index : own_index s ≡ own_index (after_calls (own_index s) (own s) ps).sheet
  pub report : (after_calls (own_index s) (own s) ps).report ≡ own_report (after_calls (own_index s) (own s) ps).sheet
  pub sheet : (after_calls (own_index s) (own s) ps).sheet ≡ sheet_after s ps

-- whatever the sheet, and whatever the list: refused calls too
abbrev pub ListsStayOwn : Type 0
ListsStayOwn = (s : List ℕ) (ps : List Pair) → OwnAfter s ps
