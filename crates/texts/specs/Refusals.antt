-- A refusal as text (document 01, "The programs").
use Rattle.std.specs.Prelude.{ℕ, List, ◌++◌}
use Rattle.decimal.specs.Ascii.{ascii}
use Rattle.decimal.specs.Decimal.{spaced}

-- a refusal prints `refused NUMBER PLACE`
unfoldable pub refusal_text : ℕ → ℕ → List ℕ
refusal_text number place = ascii "refused" ++ (spaced number ++ (spaced place ++ ascii "\n"))
