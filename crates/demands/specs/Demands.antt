-- The owner's three demands. Each speaks of the definitions that the calls' contracts cite.
use Rattle.std.specs.Prelude.{ℕ, ◌≡◌, ◌↔◌, true, false, List, ◌∷◌, ◌++◌}
use Rattle.sheet.specs.Asking.{Question, ask, all_yes, verdict}
use Rattle.sheet.specs.Asking.Verdict.{accepted, refused}
use Rattle.sheet.specs.Fields.{header_of}
use Rattle.sheet.specs.Questions.{questions}
use Rattle.sheet.specs.InOrder.{ReadingAsks, SealingAsks}
use Rattle.sheet.specs.declared.Mode.TheVariants.{Seal}
use Rattle.answers.specs.Calls.{writing}
use Rattle.sealed_sheets.specs.Sealing.{sealed}
use Rattle.sealed_sheets.specs.Demands.{SealingIsRight}
use Rattle.changed_sheets.specs.ChangeCall.{change_call}
use Rattle.change_lists.specs.ChangesCall.{changes_call, changes_sheet}
use Rattle.indexed_changes.specs.IndexedCall.{indexed_call, indexed_sheet}
use Rattle.trail_reports.specs.Demand2.{SheetReportsAreRight}
use Rattle.clauses.specs.Demand3.{EverySheetPairs}
use Rattle.demands.specs.Calls.{CallsAnswer}

-- a question with this number and place is the first whose answer is no
pub record FirstNo (qs : List Question) (number place : ℕ) : Type 0 where
  pub before : List Question
  pub after : List Question
  pub all_yes_before : all_yes before ≡ true
  pub then_no : qs ≡ before ++ (ask false number place ∷ after)

-- Demand 1. A sheet handed in, of any length and content, is accepted or refused by the first failing question of document 01, with
-- that number and place. Every call returns, checks all its own input, and on a refusal writes to no lent buffer.
-- Each call on a sheet answers the verdict of its list of questions, whatever it is lent: that is its contract, which requires nothing.
-- Its list begins with those of the reading, or of sealing. What these are, in their order; what a verdict is; what stands in a lent
-- buffer afterwards where it is a refusal; and the calls that write, but for those for texts, joining, changes, lists of changes,
-- trials and indexes, one by one:
pub record Demand1 : Type 1 where
  pub reading_asks : ReadingAsks
  pub sealing_asks : SealingAsks
  pub accepted_exactly : {A : Type 0} (qs : List Question) (a b : A) → (verdict qs a ≡ accepted b) ↔ ((all_yes qs ≡ true) × (a ≡ b))
  pub refused_exactly : {A : Type 0} (qs : List Question) (a : A) (number place : ℕ) → (verdict qs a ≡ refused number place) ↔ FirstNo qs number place
  pub refused_unwritten : {A : Type 0} (asks : List Question) (values out : List A) (number place : ℕ)
      → (writing asks values out).answer ≡ refused number place → (writing asks values out).buffer ≡ out
  pub calls : CallsAnswer
  pub refused_unsealed : (s : List ℕ) (number place : ℕ) → verdict (questions Seal s) (header_of s) ≡ refused number place → sealed s ≡ s
  pub refused_unchanged : (s : List ℕ) (k d number place : ℕ) → (change_call s k d).answer ≡ refused number place → (change_call s k d).buffer ≡ s
  pub refused_unapplied : (s numbers out : List ℕ) (number place : ℕ) → (changes_call s numbers out).answer ≡ refused number place
      → changes_sheet s numbers out ≡ s
  pub refused_unrenewed : (s index report : List ℕ) (k d number place : ℕ) → (indexed_call s index report k d).answer ≡ refused number place
      → (indexed_sheet s index report k d ≡ s) × ((indexed_call s index report k d).buffer ≡ report)

-- Demand 2. Each line's report is the XOR differential of source document 000: impossible exactly when no operand values fit, else
-- with the exact number of fitting words or pairs and the weight that bounds it. A sheet that sealing accepts becomes readable, only
-- its checks changed.
pub record Demand2 : Type 0 where
  pub reports : SheetReportsAreRight
  pub sealing : SealingIsRight

-- Demand 3. For every accepted sheet and every assignment of its variables: the assignment satisfies all clauses of all lines exactly
-- when its first variables spell a starting value that follows the trail and every other variable has the value that the two runs
-- from there give it. So they pair off one to one, equally many; if any line is reported impossible, there are none of either.
abbrev pub Demand3 : Type 0
Demand3 = EverySheetPairs

pub record Demands : Type 1 where
  pub first : Demand1
  pub second : Demand2
  pub third : Demand3
