-- Impossible where no word fits; else the weight is that of the halvings and of the chains.
use borrow.Author.Tests.{ne_eqb}
use Rattle.differential.specs.Weight.{constant_weight}
use Rattle.chains.proofs.constant_report.Goals as goal

pub returns-then-number-eq0 : goal.returns-then-number-eq0
returns-then-number-eq0 c = rw (← c.fitting-number.ensures.0, c.if-number-eq0.true)

pub returns : goal.returns
unfolding constant_weight
returns c =
    let some = c.if-number-eq0.false in
    let fit = c.fitting-number in
    let chains = c.all_chains-chains in
    rw (← fit.ensures.0, ne_eqb fit.result.0 0 some, c.in_sixteenths-halved.ensures, c.halvings.ensures.0, chains.ensures.0, chains.ensures.1)
