-- What sealing leaves in the lent bytes (document 01, "Questions, in order").
use Rattle.std.specs.Prelude.{ℕ, zero, suc, cond, List}
use Rattle.buffers.specs.Overwrite.{overwrite}
use Rattle.buffers.specs.LittleEndian.{bytes_of}
use Rattle.sheet.specs.Asking.{all_yes}
use Rattle.sheet.specs.Fields.{header_of}
use Rattle.sheet.specs.Checks.{check_of, check_position}
use Rattle.sheet.specs.Questions.{questions}
use Rattle.sheet.specs.declared.Mode.TheVariants.{Seal}

-- s with the checks of its first b blocks written
unfoldable pub with_checks : ℕ → List ℕ → List ℕ
with_checks zero s = s
with_checks (suc b) s = overwrite (check_position b) (bytes_of 4 (check_of s b)) (with_checks b s)

-- Sealing leaves out the check question and writes the checks; a refusal changes no byte.
unfoldable pub sealed : List ℕ → List ℕ
sealed s = cond (all_yes (questions Seal s)) (with_checks (header_of s).blocks s) s
