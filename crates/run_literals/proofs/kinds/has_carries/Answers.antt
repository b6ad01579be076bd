-- The range and the borrow's number have carries, and outside no number's kind has.
use mathlib.Core.Path.{◌≡◌, refl, sym}
use mathlib.Core.Bool.{true}
use mathlib.Core.Logic.{⊎_elim}
use native.Mathlib.Omega.{arith}
use Rattle.trail.specs.Kinds.{kind_of}
use Rattle.trail.proofs.KindNumbers.{at_key, in_range, no_number}
use Rattle.clause_lists.specs.Kinds.{has_carries}
use Rattle.run_literals.proofs.kinds.has_carries.Goals as goal

pub returns-in_default : goal.returns-in_default
unfolding kind_of
returns-in_default c =
    let k = c.args.kind in
    sym (no_number has_carries k refl (⊎_elim (λ e. omega arith) (⊎_elim (λ e. omega arith) (λ e. omega arith))))

pub returns-in_default-2 : goal.returns-in_default-2
unfolding kind_of
returns-in_default-2 c =
    let k = c.args.kind in
    sym (no_number has_carries k refl (⊎_elim (λ e. omega arith) (⊎_elim (λ e. omega arith) (λ e. omega arith))))

pub returns-in-5-to-6 : goal.returns-in-5-to-6
unfolding kind_of
returns-in-5-to-6 c =
    let key : c.args.kind ≡ 9 = omega arith in
    at_key (λ q. true ≡ has_carries q) key refl

pub returns-in-5-to-6-2 : goal.returns-in-5-to-6-2
unfolding kind_of
returns-in-5-to-6-2 c =
    in_range (λ q. true ≡ has_carries q) {a = 5} {b = 7} {k = c.args.kind} (omega arith) (omega arith) (refl, (refl, tt))
