-- What a list of changes leaves and replies (document 02, W-207): the change call made once for each pair, in order.
use Rattle.std.specs.Prelude.{ℕ, List, [], ◌∷◌}
use Rattle.sheet.specs.Asking.{Verdict}
use Rattle.sheet.specs.Asking.Verdict.{accepted, refused}
use Rattle.answers.specs.Calls.{Call}
use Rattle.changed_sheets.specs.ChangeCall.{change_call}
use Rattle.change_lists.specs.Pairs.{Pair}

-- the change call made for a pair
abbrev pub change_of : List ℕ → Pair → Call ℕ
change_of s p = change_call s p.line p.difference

-- A pair that would be refused is answered by its number; one applied is answered 0.
abbrev pub reply_of : Verdict ℕ → ℕ
reply_of (accepted n) = 0
reply_of (refused number place) = number

-- the sheet after the calls
unfoldable pub sheet_after : List ℕ → List Pair → List ℕ
sheet_after s [] = s
sheet_after s (p ∷ ps) = sheet_after (change_of s p).buffer ps

-- the list of replies
unfoldable pub replies_to : List ℕ → List Pair → List ℕ
replies_to s [] = []
replies_to s (p ∷ ps) = reply_of (change_of s p).answer ∷ replies_to (change_of s p).buffer ps
