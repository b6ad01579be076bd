-- What is asked of a sheet, and of each of its lines: seven questions in reading, eight in sealing (document 02, W-205).
use Prim.Native.Nat.{ℕ, ◌<◌}
use mathlib.Core.Path.{◌≡◌, refl, ap}
use mathlib.Core.Logic.{◌↔◌}
use mathlib.Core.Bool.{true, false, not, and-eq-true_iff}
use mathlib.Core.List.{List}
use borrow.Author.Tests.{not-true, eqb-true, eq-eqb}
use Rattle.sheet.specs.Asking.{all_yes}
use Rattle.sheet.specs.Fields.{form_of, header_of, record_of}
use Rattle.sheet.specs.Questions.{check_questions, header_questions, xors_itself, kind_and_operand_questions, self_xor_questions, field_questions, record_questions, line_questions, later_questions, questions}
use Rattle.sheet.specs.InOrder.{ReadingAsks, SealingAsks}
use Rattle.sheet.specs.SelfXor.{SelfXorAt}
use Rattle.sheet.specs.declared.Header.{Header}
use Rattle.sheet.specs.declared.Record.{Record}
use Rattle.sheet.specs.declared.Mode.TheVariants.{Read, Seal}
use Rattle.sheet.proofs.Asking.{yes_left, yes_right, yes_both, yes_first, yes_one}

-- ---- the whole list of questions, by the mode

pub reading_asks : ReadingAsks
unfolding questions check_questions header_questions later_questions line_questions record_questions kind_and_operand_questions self_xor_questions field_questions
reading_asks s = refl

pub sealing_asks : SealingAsks
unfolding questions check_questions header_questions later_questions line_questions record_questions kind_and_operand_questions self_xor_questions field_questions
sealing_asks s = refl

-- ---- what sealing's yes says

module _ (h : Header) (k : ℕ) (r : Record) where
  -- sealing has a yes to all exactly if reading has, and the line is no word XORed with itself
  pub sealing_yes : (all_yes (record_questions Seal h k r) ≡ true) ↔ ((all_yes (record_questions Read h k r) ≡ true) × (xors_itself r ≡ false))
  unfolding record_questions self_xor_questions
  sealing_yes = (
    λ e.
        let rest = yes_right (kind_and_operand_questions h k r) _ e in (
          yes_both (kind_and_operand_questions h k r) _ (yes_left (kind_and_operand_questions h k r) _ e) (yes_right (self_xor_questions Seal k r) _ rest),
          not-true _ (yes_first _ 23 k _ rest),
        ),
    λ e.
        yes_both (kind_and_operand_questions h k r) _ (yes_left (kind_and_operand_questions h k r) _ e.0)
        (yes_both (self_xor_questions Seal k r) _ (yes_one _ 23 k (ap not e.1)) (yes_right (kind_and_operand_questions h k r) _ e.0)),
  )

-- ---- what question 23 finds

module _ (s : List ℕ) (k : ℕ) where
  pub finds : SelfXorAt s k → xors_itself (record_of (form_of s) s k) ≡ true
  unfolding xors_itself
  finds at = (and-eq-true_iff _ _).1 (eq-eqb _ 1 at.kind, eq-eqb _ _ at.operands)

  pub found : k < (header_of s).lines → xors_itself (record_of (form_of s) s k) ≡ true → SelfXorAt s k
  unfolding xors_itself
  found l e =
      let both = (and-eq-true_iff _ _).0 e in
      record { below = l; kind = eqb-true _ _ both.0; operands = eqb-true _ _ both.1 }
