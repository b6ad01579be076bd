-- Each report adds to the totals what its values say.
use native.Mathlib.Omega.{arith}
use Rattle.trail_reports.proofs.Matched.{small_found, sums_given}
use Rattle.sheet_reports.proofs.Sums.{with_impossible, with_certain, with_halves, with_counted}
use Rattle.sheet_reports.proofs.with_line.Goals as goal

pub in_sixteenths-cost-requires : goal.in_sixteenths-cost-requires
in_sixteenths-cost-requires c = omega (arith, (small_found c.in-Halves.is c.requires.3).weight)

pub overflow_add-result-in-Halves : goal.overflow_add-result-in-Halves
overflow_add-result-in-Halves c =
    let small = small_found c.in-Halves.is c.requires.3 in
    omega (arith, small.weight, c.in_sixteenths-cost.ensures)

pub overflow_add-result-in-Counted : goal.overflow_add-result-in-Counted
overflow_add-result-in-Counted c = omega (arith, (small_found c.in-Counted.is c.requires.3).weight)

pub overflow_add-result-in-Counted-2 : goal.overflow_add-result-in-Counted-2
overflow_add-result-in-Counted-2 c =
    omega (arith, (small_found c.in-Counted.is c.requires.3).chains)

pub returns-in-Impossible : goal.returns-in-Impossible
returns-in-Impossible c = sums_given c.in-Impossible.is _ (with_impossible _)

pub returns-in-Certain : goal.returns-in-Certain
returns-in-Certain c = sums_given c.in-Certain.is _ (with_certain _)

pub returns-in-Halves : goal.returns-in-Halves
returns-in-Halves c = sums_given c.in-Halves.is _ (with_halves _ _ c.in_sixteenths-cost.ensures)

pub returns-in-Counted : goal.returns-in-Counted
returns-in-Counted c = sums_given c.in-Counted.is _ (with_counted _ _ _ c.in-Counted.field-2.0)
