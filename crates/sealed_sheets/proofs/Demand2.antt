-- Demand 2, its last sentence: a sheet that sealing accepts becomes readable, only its checks changed.
use mathlib.Core.Path.{◌≡◌, sym, ap, ap₂, ◌∙◌, subst}
use mathlib.Core.Bool.{true}
use mathlib.Core.List.{List}
use Prim.Native.Nat.{ℕ}
use Rattle.sheet.specs.Asking.{all_yes, verdict}
use Rattle.sheet.specs.Fields.{header_of, trail_of}
use Rattle.sheet.specs.Questions.{length_questions, later_questions, questions}
use Rattle.sheet.specs.Questions.{IsAccepted}
use Rattle.sheet.specs.declared.Header.{Header}
use Rattle.sheet.specs.declared.Mode.TheVariants.{Read, Seal}
use Rattle.sheet.proofs.Settled.{whole}
use Rattle.sealed_sheets.specs.Sealing.{with_checks}
use Rattle.sealed_sheets.specs.Demands.{SameButChecks, SealingIsRight, SealingForgetsChecks}
use Rattle.sealed_sheets.proofs.OnlyChecks.{same_header, same_questions}
use Rattle.sealed_sheets.proofs.WrittenChecks.{sealed_yes, checks_agree}
use Rattle.sealed_sheets.proofs.Checked.{only_checks, checked_accepted, checked_trail}
use Rattle.sealed_sheets.proofs.SelfXor.{seals_exactly}

-- ---- what sealing accepts then reads as accepted

module _ (s : List ℕ) (yes : all_yes (questions Seal s) ≡ true) where
  length_yes : all_yes (length_questions s) ≡ true
  length_yes = ((seals_exactly s).0 yes).0

  -- what reading asks of header, lines and rest, sealing asks too
  later_yes : all_yes (later_questions Read s (header_of s)) ≡ true
  later_yes = ((seals_exactly s).0 yes).1

pub sealing_is_right : SealingIsRight
sealing_is_right s e =
    let l = length_yes s e in
    let m = later_yes s e in
    let same = sym (sealed_yes s e) in
    record {
      readable = subst IsAccepted same (checked_accepted s l m);
      same_trail = subst (λ b. trail_of b ≡ trail_of s) same (checked_trail s l m);
      only_checks = subst (λ b. SameButChecks b s) same (only_checks s l m);
    }

-- ---- what stood at the checks before does not matter

pub sealing_forgets_checks : SealingForgetsChecks
sealing_forgets_checks s t h = record {
  same_answer = ap₂ verdict (same_questions h) (same_header h);
  same_bytes = λ e. sealed_yes s e ∙ blocks e ∙ sym (sealed_yes t (ap all_yes (sym (same_questions h)) ∙ e));
}
  where
    blocks : all_yes (questions Seal s) ≡ true → with_checks (header_of s).blocks s ≡ with_checks (header_of t).blocks t
    blocks e = checks_agree h (header_of s).blocks (whole s (length_yes s e)).whole ∙ ap (λ (p : Header). with_checks p.blocks t) (same_header h)
