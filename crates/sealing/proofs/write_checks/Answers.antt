use native.Mathlib.Omega.{arith}
use mathlib.Core.Path.{refl, ◌∙◌}
use Rattle.sealed_sheets.proofs.WrittenChecks.{checks_none, checks_next}
use Rattle.sealing.proofs.write_checks.Goals as goal

pub loop-b-init : goal.loop-b-init
loop-b-init c = (refl, checks_none _)

pub loop-b-preserved : goal.loop-b-preserved
loop-b-preserved c =
    let h = c.loop-b in
    let put = c.put_number in
    let check = c.block_check-check.ensures in
    (put.auto.s ∙ h.invariant.0, put.ensures.now_is ∙ checks_next _ _ _ _ (omega arith) h.invariant.1 check)
