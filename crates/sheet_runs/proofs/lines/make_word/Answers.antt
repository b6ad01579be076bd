-- The word that a line makes is stored behind those before it.
use native.Mathlib.Omega.{arith}
use Rattle.trail.proofs.Runs.{second_below}
use Rattle.sheet_runs.proofs.lines.make_word.Goals as goal

pub offset_bounds-words-second : goal.offset_bounds-words-second
offset_bounds-words-second c = omega (arith, second_below c.requires.3)

pub bounds-words-second : goal.bounds-words-second
bounds-words-second c = omega (arith, second_below c.requires.3)

pub word_made-made-requires : goal.word_made-made-requires
word_made-made-requires c =
    let pre = c.requires in
    let line = pre.3 in
    (pre.0, pre.1, pre.4.word _ line.first_earlier, λ u. (line.amount_least u, line.amount_most u))
