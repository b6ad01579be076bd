-- What the change call that is lent index and report comes to (document 02, W-208).
use Rattle.std.specs.Prelude.{ℕ, ◌≡◌, ◌↔◌, Bool, true, ◌&&◌, cond, List, [], ◌∷◌, ◌++◌, eqb, length, get_or}
use Rattle.words.specs.Below.{all}
use Rattle.trail.specs.Trail.{Trail}
use Rattle.sheet.specs.Asking.{Question, ask, all_yes, verdict}
use Rattle.sheet.specs.Fields.{header_of, trail_of}
use Rattle.sheet.specs.Questions.{questions}
use Rattle.sheet.specs.declared.Mode.TheVariants.{Read}
use Rattle.answers.specs.Calls.{Call}
use Rattle.report_buffer.specs.Buffer.{sheet_bytes}
use Rattle.sheet_indexes.specs.Index.{index_of}
use Rattle.changed_sheets.specs.ChangedSheet.{changed_sheet}
use Rattle.changed_sheets.specs.ChangeCall.{change_questions}
use Rattle.indexed_changes.specs.Renewed.{renewed}

-- whether what was lent is the sheet's own, at its exact length
unfoldable pub is_own : List ℕ → List ℕ → Bool
is_own own lent = eqb (length lent) (length own) && all (length own) (λ i. eqb (get_or lent i 0) (get_or own i 0))

abbrev pub OwnExactly : Type 0
OwnExactly = (own lent : List ℕ) → (is_own own lent ≡ true) ↔ (lent ≡ own)

-- Are index and report the sheet's own? 26
abbrev pub own_questions : Trail → List ℕ → List ℕ → List Question
own_questions t index report = ask (is_own (index_of t) index && is_own (sheet_bytes t) report) 26 0 ∷ []

-- 26 after the reading and before 17; then 14, as a change asks them
abbrev pub indexed_asks : List ℕ → List ℕ → List ℕ → ℕ → ℕ → List Question
indexed_asks s index report k d = questions Read s ++ (own_questions (trail_of s) index report ++ change_questions (header_of s) k d)

-- The call renews the lent report by the changed sheet's trail, and counts nothing; a refusal changes no byte.
unfoldable pub indexed_call : List ℕ → List ℕ → List ℕ → ℕ → ℕ → Call ℕ
indexed_call s index report k d = record {
  answer = verdict (indexed_asks s index report k d) 0;
  buffer = cond (all_yes (indexed_asks s index report k d)) (renewed (trail_of (changed_sheet s k d)) k report) report;
}

-- the lent sheet afterwards: the changed one; on a refusal no byte is changed. The index is lent to be read alone.
unfoldable pub indexed_sheet : List ℕ → List ℕ → List ℕ → ℕ → ℕ → List ℕ
indexed_sheet s index report k d = cond (all_yes (indexed_asks s index report k d)) (changed_sheet s k d) s
