-- `amount_right` asks of the rotations and the shifts alone, which are a range of numbers each.
use native.Mathlib.Omega.{arith}
use mathlib.Core.Path.{◌≡◌}
use mathlib.Core.Bool.{true}
use Rattle.sheet.specs.Questions.{amount_right}
use Rattle.trail.specs.Kinds.{kind_of, uses_amount}
use Rattle.trail.proofs.KindTests.{amount_of_rotation, amount_of_shift, amount_unused}
use Rattle.field_questions.proofs.amount_right.Goals as goal
use Rattle.field_questions.proofs.amount_right.Goals.{then-kind-lt5, else-kind-lt5+else-kind-lt7+then-kind-lt9}

pub returns-in_default : goal.returns-in_default
unfolding amount_right
returns-in_default c = rw (amount_unused c.args.line.kind (λ h. omega arith) (λ h. omega arith))

pub returns-in_default-2 : goal.returns-in_default-2
unfolding amount_right
returns-in_default-2 c = rw (amount_unused c.args.line.kind (λ h. omega arith) (λ h. omega arith))

pub returns-in_default-3 : goal.returns-in_default-3
unfolding amount_right
returns-in_default-3 c = rw (amount_unused c.args.line.kind (λ h. omega arith) (λ h. omega arith))

pub returns-in-3-to-4 : goal.returns-in-3-to-4
unfolding amount_right
returns-in-3-to-4 c =
    let kind = c.args.line.kind in
    let used : uses_amount (kind_of kind) ≡ true = elim c.in-3-to-4-1.branch [
      | then-kind-lt5 w ↦ amount_of_rotation kind (omega arith) (omega arith)
      | else-kind-lt5+else-kind-lt7+then-kind-lt9 w ↦ amount_of_shift kind (omega arith) (omega arith)
    ] in
    rw (c.within.ensures, used)
