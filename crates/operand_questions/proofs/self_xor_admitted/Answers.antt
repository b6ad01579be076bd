-- Kind 1 with equal operands passes in reading alone; every other line passes in both modes.
use Prim.Native.Nat.{ℕ}
use mathlib.Core.Path.{◌≡◌, refl, sym, ap, ◌∙◌}
use mathlib.Core.Logic.{◌≢◌}
use mathlib.Core.Bool.{true, not, ◌&&◌, and-true}
use borrow.Author.Tests.{eq-eqb, ne_eqb}
use lib.Dec.{eqb}
use Rattle.sheet.specs.Asking.{all_yes}
use Rattle.sheet.specs.Questions.{xors_itself, self_xor_questions}
use Rattle.sheet.specs.declared.Mode.{Mode}
use Rattle.sheet.specs.declared.Mode.TheVariants.{Read, Seal}
use Rattle.sheet.specs.declared.Record.{Record}
use Rattle.operand_questions.proofs.self_xor_admitted.Goals as goal

-- reading does not ask
unasked : (m : Mode) (k : ℕ) (r : Record) → m ≡ Read → true ≡ all_yes (self_xor_questions m k r)
unfolding self_xor_questions all_yes
unasked m k r e = ap (λ x. all_yes (self_xor_questions x k r)) (sym e)

-- of kind 1 sealing asks for different operands
asked : (m : Mode) (k : ℕ) (r : Record) → m ≡ Seal → r.kind ≡ 1 → not (eqb r.first r.second) ≡ all_yes (self_xor_questions m k r)
unfolding self_xor_questions all_yes xors_itself
asked m k r e d =
    sym (and-true _)
    ∙ ap (λ t. not (t && eqb r.first r.second) && true) (sym (eq-eqb r.kind 1 d))
    ∙ ap (λ x. all_yes (self_xor_questions x k r)) (sym e)

-- other kinds pass
passes : (m : Mode) (k : ℕ) (r : Record) → r.kind ≢ 1 → true ≡ all_yes (self_xor_questions m k r)
unfolding self_xor_questions all_yes xors_itself
passes Read k r e = refl
passes Seal k r e = sym (ap (λ t. not (t && eqb r.first r.second) && true) (ne_eqb r.kind 1 e))

pub returns-in-Read : goal.returns-in-Read
returns-in-Read c k = search unasked

pub returns-in-Seal : goal.returns-in-Seal
returns-in-Seal c k = search asked

pub returns-in_default : goal.returns-in_default
returns-in_default c k = search passes
