-- The numbers are the definition's, one by one.
use mathlib.Core.Path.{refl}
use Rattle.listed_lines.proofs.numbers_of.Goals as goal

pub returns : goal.returns
returns c = refl
