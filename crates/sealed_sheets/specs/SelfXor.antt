-- A word XORed with itself (document 02, W-205): sealing refuses every sheet that has such a line, and accepts all others that it
-- accepted before.
use Rattle.std.specs.Prelude.{ℕ, ◌<◌, ◌≡◌, ◌↔◌, true, false, List, [], ◌∷◌, ◌++◌}
use Rattle.words.specs.Below.{concat}
use Rattle.sheet.specs.Asking.{Question, ask, all_yes, verdict}
use Rattle.sheet.specs.Asking.Verdict.{refused}
use Rattle.sheet.specs.Fields.{form_of, header_of, record_of}
use Rattle.sheet.specs.Questions.{length_questions, header_questions, kind_and_operand_questions, line_questions, later_questions, questions}
use Rattle.sheet.specs.Questions.{IsAccepted}
use Rattle.sheet.specs.SelfXor.{SelfXorAt}
use Rattle.sheet.specs.declared.Mode.TheVariants.{Read, Seal}
use Rattle.sealed_sheets.specs.Sealing.{with_checks, sealed}

-- what sealing asks before 23 of line k: 1, 3 to 8, all of the lines before it, and 9, 10 and 11 of line k
abbrev pub asked_before : List ℕ → ℕ → List Question
asked_before s k =
    length_questions s
    ++ (header_questions s (header_of s)
    ++ (concat k (line_questions Seal s (header_of s)) ++ kind_and_operand_questions (header_of s) k (record_of (form_of s) s k)))

-- Sealing refuses a sheet with such a line, with the number of the first failing question, and leaves its bytes. That question is one
-- of those before 23 of line k, or 23 with k as its place.
pub record SelfXorRefused (s : List ℕ) (k : ℕ) : Type 0 where
  pub number : ℕ
  pub place : ℕ
  pub answer : verdict (questions Seal s) (header_of s) ≡ refused number place
  pub first : verdict (asked_before s k ++ (ask false 23 k ∷ [])) (header_of s) ≡ refused number place
  pub bytes : sealed s ≡ s

abbrev pub SealingRefusesSelfXor : Type 0
SealingRefusesSelfXor = (s : List ℕ) (k : ℕ) → SelfXorAt s k → SelfXorRefused s k

-- Sealing an old sheet afresh refuses it: a sheet that reading accepts is refused by 23, place: its first such line.
abbrev pub SealingRefusesOldSheets : Type 0
SealingRefusesOldSheets =
    (s : List ℕ) (k : ℕ) → IsAccepted s → SelfXorAt s k → ((j : ℕ) → j < k → SelfXorAt s j → ⊥)
    → verdict (questions Seal s) (header_of s) ≡ refused 23 k

-- Sealing accepts exactly the sheets with yes to what reading asks but for the checks, and with no such line.
abbrev pub SealsExactly : Type 0
SealsExactly =
    (s : List ℕ)
    → (all_yes (questions Seal s) ≡ true)
    ↔ ((all_yes (length_questions s) ≡ true) × (all_yes (later_questions Read s (header_of s)) ≡ true) × ((k : ℕ) → SelfXorAt s k → ⊥))

-- Sheets sealed earlier still read: what sealing accepted without 23, with yes to 1 and 3 to 16, is accepted with its checks written.
abbrev pub StillRead : Type 0
StillRead =
    (s : List ℕ) → all_yes (length_questions s) ≡ true → all_yes (later_questions Read s (header_of s)) ≡ true
    → IsAccepted (with_checks (header_of s).blocks s)
