-- What the call for a list of changes comes to (document 02, W-207).
use Rattle.std.specs.Prelude.{ℕ, cond, List, [], ◌∷◌, ◌++◌, leb, length}
use Rattle.sheet.specs.Asking.{Question, ask, all_yes}
use Rattle.sheet.specs.Questions.{questions}
use Rattle.sheet.specs.declared.Mode.TheVariants.{Read}
use Rattle.answers.specs.Calls.{Call, writing}
use Rattle.change_lists.specs.Pairs.{Pair, pairs_of}
use Rattle.change_lists.specs.Applied.{sheet_after, replies_to}

-- a list of up to 64 pairs
abbrev pub most_pairs : ℕ
most_pairs = 64

-- 24 for more than 64 pairs, 25 for a reply buffer shorter than the list
abbrev pub list_questions : List Pair → List ℕ → List Question
list_questions ps out = ask (leb (length ps) most_pairs) 24 0 ∷ (ask (leb (length ps) (length out)) 25 0 ∷ [])

-- after the reading, in that order
abbrev pub changes_asks : List ℕ → List ℕ → List ℕ → List Question
changes_asks s numbers out = questions Read s ++ list_questions (pairs_of numbers) out

-- The replies, a byte each, from the reply buffer's start; the count is theirs, which is the pairs'. A refusal writes none.
abbrev pub changes_call : List ℕ → List ℕ → List ℕ → Call ℕ
changes_call s numbers out = writing (changes_asks s numbers out) (replies_to s (pairs_of numbers)) out

-- the lent sheet afterwards: with every pair applied or skipped; on a refusal nothing is applied
unfoldable pub changes_sheet : List ℕ → List ℕ → List ℕ → List ℕ
changes_sheet s numbers out = cond (all_yes (changes_asks s numbers out)) (sheet_after s (pairs_of numbers)) s
