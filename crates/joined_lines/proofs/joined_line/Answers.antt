-- A line with two operands renumbered, field by field.
use mathlib.Core.Path.{refl}
use Rattle.trail.proofs.Repeats.{same_line}
use Rattle.joined_lines.proofs.joined_line.Goals as goal

pub returns : goal.returns
returns c =
    λ t u inputs lines second.
    same_line refl refl (c.joined_word-first_word.ensures t u inputs lines second) (c.joined_second-second_word.ensures t u inputs lines second) refl refl
