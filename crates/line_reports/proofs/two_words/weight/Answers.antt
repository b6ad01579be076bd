-- `weight` counts the ones of the unequal positions below n - 1.
use Rattle.differential.proofs.WholeWords.{weight_ones}
use Rattle.line_reports.proofs.two_words.weight.Goals as goal

pub returns : goal.returns
returns c =
    let a = c.args in
    rw (c.mask.ensures, c.unequal_bits.ensures) (weight_ones a.n a.alpha a.beta a.gamma)
