-- The made word's own difference signs its literals.
use Rattle.run_literals.proofs.RunLiterals.{made_signed, word_made}
use Rattle.run_literals.proofs.literals.made_literal.Goals as goal

pub returns : goal.returns
returns c =
    let a = c.args in
    let run = c.args.run in
    word_made run a.run.word a.run.made a.i (made_signed run) c.bit_literal.ensures
