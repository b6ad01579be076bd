-- The blocks are those of the parts that sealing gave.
use mathlib.Core.Path.{sym, ap, ◌∙◌}
use mathlib.Core.List.{[], append-nil}
use Rattle.sheet.specs.Asking.{verdict}
use Rattle.sheet.specs.Fields.{header_of}
use Rattle.sheet.specs.Questions.{questions}
use Rattle.sheet.specs.Asking.Verdict.{accepted}
use Rattle.sheet.specs.declared.Header.{Header}
use Rattle.sheet.specs.declared.Mode.TheVariants.{Seal}
use Rattle.sheet.proofs.Asking.{yes_verdict, verdict_yes}
use Rattle.answers.proofs.Calling.{hands_on}
use Rattle.sealing_c.proofs.seal_blocks.Goals as goal

pub returns-in_err-header : goal.returns-in_err-header
returns-in_err-header c =
    let told = c.in_err-header.ensures in
    let asks = questions Seal c.args.sheet.now in
    let blocks = (header_of c.args.sheet.now).blocks in (
      hands_on _ asks [] _ blocks _ _ c.from_residual.ensures.1 told.0 ∙ ap (λ l. verdict l blocks) (append-nil asks),
      told.1,
    )

pub returns : goal.returns
returns c =
    let told = c.in_ok-header.ensures in
    let yes = yes_verdict _ _ _ (sym told.0) in
    (ap (λ (h : Header). accepted h.blocks) (sym yes.1) ∙ sym (verdict_yes _ _ yes.0), told.1)
