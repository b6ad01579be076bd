-- What the change call comes to (document 02, W-206).
use Rattle.std.specs.Prelude.{ℕ, cond, List, [], ◌∷◌, ◌++◌}
use Rattle.words.specs.Words.{is_word}
use Rattle.sheet.specs.Asking.{Question, ask, all_yes, verdict}
use Rattle.sheet.specs.Fields.{header_of}
use Rattle.sheet.specs.Questions.{questions, line_number_questions}
use Rattle.sheet.specs.declared.Header.{Header}
use Rattle.sheet.specs.declared.Mode.TheVariants.{Read}
use Rattle.answers.specs.Calls.{Call}
use Rattle.changed_sheets.specs.ChangedSheet.{changed_sheet}

-- Is the new difference below 2 ^ n? 14, place: the line
abbrev pub new_difference_questions : Header → ℕ → ℕ → List Question
new_difference_questions h k d = ask (is_word h.width d) 14 k ∷ []

-- what is asked of a line and its new difference: 17, then 14
abbrev pub change_questions : Header → ℕ → ℕ → List Question
change_questions h k d = line_number_questions h k ++ new_difference_questions h k d

-- the reading's questions, then these
abbrev pub change_asks : List ℕ → ℕ → ℕ → List Question
change_asks s k d = questions Read s ++ change_questions (header_of s) k d

-- The call leaves the changed sheet in the lent bytes, and counts nothing; a refusal changes no byte.
unfoldable pub change_call : List ℕ → ℕ → ℕ → Call ℕ
change_call s k d = record {
  answer = verdict (change_asks s k d) 0;
  buffer = cond (all_yes (change_asks s k d)) (changed_sheet s k d) s;
}
