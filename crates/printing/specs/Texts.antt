-- Which text a program prints, and what it gathers before it writes.
use Rattle.std.specs.Prelude.{ℕ, ◌-◌, ◌≤◌, ◌<◌, ◌≡◌, List, Result, Ok, Err}
use Rattle.answers.specs.Calls.{Call}
use Rattle.clause_file.specs.Parts.{clause_text_call, most_bytes}
use Rattle.report_file.specs.Parts.{report_text_call}
use Rattle.printing.specs.declared.Text.{Text}
use Rattle.printing.specs.declared.Text.TheVariants.{Report, Clauses}

-- the call for a part of a text
abbrev pub text_call : Text → List ℕ → ℕ → List ℕ → Call ℕ
text_call Report s part out = report_text_call s part out
text_call Clauses s part out = clause_text_call s part out

-- `end` bytes are gathered, of 65,536 that there is room for. If any part fits behind them they stay; else they are written out, and
-- none are left, or the text has ended, as a write failed.
abbrev pub HasRoom : {E : Type 0} → ℕ → Result ℕ E → Type 0
HasRoom end (Ok n) = (n ≤ 65536 - most_bytes) × (end ≤ 65536 - most_bytes → n ≡ end) × (65536 - most_bytes < end → n ≡ 0)
HasRoom end (Err _) = 65536 - most_bytes < end
