-- Bytes that answer every question of reading but the checks' with yes are accepted once their checks are written. Sealing's own
-- questions play no part.
use Prim.Native.Nat.{ℕ, ◌*◌, ◌<◌, ◌≤◌}
use native.Mathlib.Omega.{arith}
use mathlib.Core.Path.{◌≡◌, sym, ap, ◌∙◌, subst}
use mathlib.Core.Bool.{true}
use mathlib.Core.List.{List}
use borrow.Author.Tests.{eq-eqb}
use lib.ListN.{length}
use Rattle.sheet.specs.Asking.{all_yes}
use Rattle.sheet.specs.Fields.{header_of, trail_of}
use Rattle.sheet.specs.Questions.{length_questions, check_question, check_questions, later_questions, questions}
use Rattle.sheet.specs.Questions.{IsAccepted}
use Rattle.sheet.specs.Facts.{Whole, Limited}
use Rattle.sheet.specs.declared.Header.{Header}
use Rattle.sheet.specs.declared.Mode.TheVariants.{Read}
use Rattle.sheet.proofs.Asking.{yes_left, yes_both, yes_one, yes_each}
use Rattle.sheet.proofs.Settled.{whole, limited}
use Rattle.sealed_sheets.specs.Sealing.{with_checks}
use Rattle.sealed_sheets.specs.Demands.{SameButChecks}
use Rattle.sealed_sheets.specs.SelfXor.{StillRead}
use Rattle.sealed_sheets.proofs.OnlyChecks.{same_symm, same_header, same_check, same_length_questions, same_later, same_trail}
use Rattle.sealed_sheets.proofs.WrittenChecks.{checks_same, check_there}

module _ (s : List ℕ) (length_yes : all_yes (length_questions s) ≡ true) (later_yes : all_yes (later_questions Read s (header_of s)) ≡ true) where
  pub sized : Whole s (header_of s)
  sized = whole s length_yes

  few : Limited (header_of s)
  unfolding later_questions
  few = limited s (header_of s) sized.blocks_least (yes_left _ _ later_yes)

  room : 512 * (header_of s).blocks ≤ length s
  room = omega (arith, sized.whole)

  -- s with its checks
  abbrev pub checked : List ℕ
  checked = with_checks (header_of s).blocks s

  pub only_checks : SameButChecks checked s
  only_checks = checks_same s (header_of s).blocks room

  check_right : (b : ℕ) → b < (header_of checked).blocks → all_yes (check_question checked b) ≡ true
  unfolding check_question
  check_right b l =
      let less : b < (header_of s).blocks = subst (λ (h : Header). b < h.blocks) (same_header only_checks) l in
      yes_one _ 2 b (eq-eqb _ _ (check_there s (header_of s).blocks room b less ∙ sym (same_check only_checks b)))

  pub checked_accepted : IsAccepted checked
  unfolding questions check_questions
  checked_accepted =
      yes_both (length_questions checked) _ (ap all_yes (same_length_questions only_checks) ∙ length_yes)
      (yes_both _ _ (yes_each (check_question checked) (header_of checked).blocks check_right)
      (ap (λ (h : Header). all_yes (later_questions Read checked h)) (same_header only_checks) ∙ ap all_yes (same_later only_checks Read (header_of s)) ∙ later_yes))

  pub checked_trail : trail_of checked ≡ trail_of s
  checked_trail = sym (same_trail (same_symm only_checks) few.inputs_most)

pub still_read : StillRead
still_read = checked_accepted
