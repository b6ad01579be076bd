-- `unused_zero` looks at the two fields that the kind of each arm does not use; question 9 has settled that it is a kind.
use mathlib.Core.Path.{◌≡◌, refl, sym, ap, ◌∙◌}
use mathlib.Core.Bool.{Bool, true, ◌&&◌, ◌||◌, and-true}
use native.Mathlib.Omega.{arith}
use borrow.Author.Tests.{eq-eqb}
use lib.Dec.{eqb}
use Rattle.trail.specs.Kinds.{Kind, kind_of, uses_amount, uses_second, uses_constant}
use Rattle.trail.proofs.KindNumbers.{at_keys, numbers_with, with_number, every_kind}
use Rattle.trail.proofs.KindTests.{second_unused, amount_of_rotation, amount_of_shift, amount_unused}
use Rattle.sheet.specs.Questions.{unused_zero}
use Rattle.sheet.proofs.Testing.{testing}
use Rattle.sheet.specs.declared.Record.{Record}
use Rattle.field_questions.proofs.unused_zero.Goals as goal
use Rattle.field_questions.proofs.unused_zero.Goals.{then-kind-lt5, else-kind-lt5+else-kind-lt7+then-kind-lt9, in_default-via-then-kind-lt3, in_default-via-else-kind-lt3+else-kind-lt5+then-kind-lt7, in_default-via-else-kind-lt3+else-kind-lt5+else-kind-lt7+else-kind-lt9}

rest : Record → Kind → Bool
rest l q = (uses_amount q || eqb l.amount 0) && ((uses_second q || eqb l.second 0) && (uses_constant q || eqb l.constant 0))

-- with the zero field zero, that is all that is asked
asks : (l : Record) → l.zero ≡ 0 → unused_zero l ≡ rest l (kind_of l.kind)
unfolding unused_zero rest
asks l e = rw (eq-eqb l.zero 0 e)

pub returns-then-line-ne0 : goal.returns-then-line-ne0
unfolding unused_zero
returns-then-line-ne0 c = search testing

pub returns-in-1 : goal.returns-in-1
unfolding rest kind_of
returns-in-1 c =
    let l = c.args.line in
    let zero = asks l c.if-line-ne0.false in
    let is = at_keys (λ q. rest l q ≡ (eqb l.amount 0 && eqb l.constant 0)) (numbers_with uses_second) l.kind c.in-1.is (refl, (refl, (refl, tt))) in
    c.both_zero.ensures ∙ sym (zero ∙ is)

pub returns-in-3-to-4 : goal.returns-in-3-to-4
unfolding rest kind_of
returns-in-3-to-4 c =
    let l = c.args.line in
    let zero = asks l c.if-line-ne0.false in
    let used : uses_amount (kind_of l.kind) ≡ true = elim c.in-3-to-4-1.branch [
      | then-kind-lt5 w ↦ amount_of_rotation l.kind (omega arith) (omega arith)
      | else-kind-lt5+else-kind-lt7+then-kind-lt9 w ↦ amount_of_shift l.kind (omega arith) (omega arith)
    ] in
    let is = at_keys (λ q. rest l q ≡ (eqb l.second 0 && eqb l.constant 0)) (numbers_with uses_amount) l.kind (with_number uses_amount l.kind refl used) (refl, (refl, (refl, (refl, tt)))) in
    c.both_zero-in-3-to-4.ensures ∙ sym (zero ∙ is)

pub returns-in_default : goal.returns-in_default
unfolding rest kind_of
returns-in_default c =
    let l = c.args.line in
    let zero = asks l c.if-line-ne0.false in
    let no_word = second_unused l.kind (λ e. omega arith) in
    let no-amount = amount_unused l.kind (λ h. elim c.in_default.branch [
      | in_default-via-then-kind-lt3 w ↦ omega arith
      | in_default-via-else-kind-lt3+else-kind-lt5+then-kind-lt7 w ↦ omega arith
      | in_default-via-else-kind-lt3+else-kind-lt5+else-kind-lt7+else-kind-lt9 w ↦ omega arith
    ]) (λ h. elim c.in_default.branch [
      | in_default-via-then-kind-lt3 w ↦ omega arith
      | in_default-via-else-kind-lt3+else-kind-lt5+then-kind-lt7 w ↦ omega arith
      | in_default-via-else-kind-lt3+else-kind-lt5+else-kind-lt7+else-kind-lt9 w ↦ omega arith
    ]) in
    let some = every_kind (λ q. uses_second q || (uses_amount q || uses_constant q)) refl l.kind (omega arith) (omega arith) in
    let constant : uses_constant (kind_of l.kind) ≡ true = rw (no_word, no-amount) at some in
    c.both_zero-in_default.ensures ∙ sym (zero ∙ rw (no_word, no-amount, constant) (ap (λ t. eqb l.amount 0 && t) (and-true (eqb l.second 0))))
