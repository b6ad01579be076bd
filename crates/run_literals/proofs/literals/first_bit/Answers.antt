-- Each arm gives the bit that the row of its number's kind takes; a kind that uses no amount takes its own.
use native.Mathlib.Omega.{arith}
use Prim.Native.Nat.{◌+◌, ◌-◌, ◌%◌}
use mathlib.Core.Path.{◌≡◌, refl}
use mathlib.Core.Bool.{true}
use mathlib.Core.Logic.{⊎_elim}
use Rattle.trail.specs.Kinds.{kind_of, uses_amount}
use Rattle.trail.proofs.KindNumbers.{at_key, known_within, no_number}
use Rattle.clause_lists.specs.Kinds.{gates}
use Rattle.clause_lists.specs.Kinds.Taken.{bit_at}
use Rattle.run_literals.proofs.KindRows.{own_bit, left_taken, right_taken}
use Rattle.run_literals.proofs.literals.first_bit.Goals as goal

pub overflow_sub-result : goal.overflow_sub-result
unfolding kind_of
overflow_sub-result c =
    let line = c.args.run.proper.line_right in
    omega (arith, line.amount_most (at_key (λ q. uses_amount q ≡ true) c.in-3.is refl))

pub overflow_add-result-in-4 : goal.overflow_add-result-in-4
unfolding kind_of
overflow_add-result-in-4 c =
    let line = c.args.run.proper.line_right in
    omega (arith, line.amount_most (at_key (λ q. uses_amount q ≡ true) c.in-4.is refl))

pub overflow_sub-result-in-7 : goal.overflow_sub-result-in-7
overflow_sub-result-in-7 c =
    let r = c.args.run in
    (left_taken r.line.kind r.width r.line.amount c.args.i c.in-7.is c.requires.1).0

pub overflow_add-result-in-8 : goal.overflow_add-result-in-8
overflow_add-result-in-8 c =
    let r = c.args.run in
    let within = (right_taken r.line.kind r.width r.line.amount c.args.i c.in-8.is c.requires.1).0 in
    omega arith

pub returns-in-3 : goal.returns-in-3
unfolding kind_of
returns-in-3 c =
    let a = c.args in
    let r = a.run in
    at_key (λ q. (gates q).taken r.width r.line.amount a.i ≡ bit_at ((a.i + (r.width - r.line.amount)) % r.width))
    c.in-3.is refl

pub returns-in-4 : goal.returns-in-4
unfolding kind_of
returns-in-4 c =
    let a = c.args in
    let r = a.run in
    at_key (λ q. (gates q).taken r.width r.line.amount a.i ≡ bit_at ((a.i + r.line.amount) % r.width))
    c.in-4.is refl

pub returns-in-7 : goal.returns-in-7
returns-in-7 c =
    let r = c.args.run in
    (left_taken r.line.kind r.width r.line.amount c.args.i c.in-7.is c.requires.1).1

pub returns-in-8 : goal.returns-in-8
returns-in-8 c =
    let r = c.args.run in
    (right_taken r.line.kind r.width r.line.amount c.args.i c.in-8.is c.requires.1).1

pub returns-in_default : goal.returns-in_default
unfolding kind_of
returns-in_default c =
    let a = c.args in
    let k = a.run.line.kind in
    let within = known_within k c.args.run.proper.line_right.kind_known in
    let rest = c.in_default.in_default-own.rest in
    own_bit k a.run.width a.run.line.amount a.i within.0 within.1
    (no_number uses_amount k refl (⊎_elim rest.0.0.0.1 (⊎_elim rest.0.0.1 (⊎_elim rest.0.1 rest.1))))
