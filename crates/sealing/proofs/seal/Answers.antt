-- Sealing writes the checks only where all its questions are answered yes.
use mathlib.Core.Path.{sym, ap, ◌∙◌, subst}
use Rattle.sheet.specs.Questions.{questions}
use Rattle.sealed_sheets.specs.Sealing.{with_checks}
use Rattle.sheet.specs.Facts.{Whole}
use Rattle.sheet.proofs.Asking.{yes_left, yes_verdict, no_verdict}
use Rattle.sealed_sheets.proofs.WrittenChecks.{sealed_yes, sealed_no}
use Rattle.sheet.proofs.Settled.{whole}
use Rattle.sheet.specs.declared.Header.{Header}
use Rattle.answers.proofs.Calling.{same_refusal}
use Rattle.sealing.proofs.seal.Goals as goal

pub returns-in_err-header : goal.returns-in_err-header
returns-in_err-header c =
    let told = c.in_err-header.ensures in
    (same_refusal _ _ _ c.from_residual.ensures.1 ∙ told, sym (sealed_no _ (no_verdict _ _ (sym told))))

pub write_checks-requires : goal.write_checks-requires
unfolding questions
write_checks-requires c =
    let yes = yes_verdict _ _ _ (sym c.in_ok-header.ensures) in
    let w = subst (Whole _) yes.1 (whole _ (yes_left _ _ yes.0)) in
    (w.whole, w.blocks_most)

pub returns : goal.returns
returns c =
    let s = c.args.sheet.now in
    let yes = yes_verdict _ _ _ (sym c.in_ok-header.ensures) in
    let bytes = c.write_checks.ensures ∙ ap (λ (h : Header). with_checks h.blocks s) (sym yes.1) in
    (c.in_ok-header.ensures, bytes ∙ sym (sealed_yes _ yes.0))
