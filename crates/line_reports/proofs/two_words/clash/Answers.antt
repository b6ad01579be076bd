-- `clash` asks whether an odd position is left out of those that are not all equal below.
use native.Mathlib.Omega.{arith}
use Rattle.differential.proofs.WholeWords.{clash_words}
use Rattle.line_reports.proofs.two_words.clash.Goals as goal

pub returns : goal.returns
returns c =
    let a = c.args in
    rw (c.mask-2.ensures, c.mask.ensures, c.unequal_bits.ensures)
    (clash_words a.n a.alpha a.beta a.gamma (omega arith))
