-- Length, checks, then the later stages: each refusal is handed on as it is.
use mathlib.Core.Path.{sym, ◌∙◌, subst}
use lib.ListN.{length}
use Rattle.sheet.specs.Questions.{questions, check_questions}
use Rattle.sheet.specs.Facts.{Whole}
use Rattle.sheet.proofs.Asking.{go_on}
use Rattle.sheet.proofs.Settled.{whole}
use Rattle.answers.proofs.Answering.{asked, hand_on}
use Rattle.reading.proofs.read.Goals as goal

pub returns-in_default : goal.returns-in_default
unfolding questions check_questions
returns-in_default c = hand_on _ _ _ _ _ _ c.length_stage-length.ensures c.in_default.is

pub check_stage-checks-requires : goal.check_stage-checks-requires
check_stage-checks-requires c =
    let length = asked _ _ _ _ c.length_stage-length.ensures c.in-Ok.is in
    subst (Whole _) length.1 (whole _ length.0)

pub returns-in_default-checks : goal.returns-in_default-checks
unfolding questions check_questions
returns-in_default-checks c =
    let length = asked _ _ _ _ c.length_stage-length.ensures c.in-Ok.is in
    let checks = rw (← length.1) at c.check_stage-checks.ensures in
    hand_on _ _ _ _ _ _ checks c.in_default-checks.is ∙ sym (go_on _ _ _ length.0)

pub later_stages-requires : goal.later_stages-requires
later_stages-requires c =
    let length = asked _ _ _ _ c.length_stage-length.ensures c.in-Ok.is in
    subst (Whole _) length.1 (whole _ length.0)

pub returns : goal.returns
unfolding questions check_questions
returns c =
    let length = asked _ _ _ _ c.length_stage-length.ensures c.in-Ok.is in
    let checks = asked _ _ _ _ (rw (← length.1) at c.check_stage-checks.ensures) c.in-Ok-checks.is in
    (rw (← length.1) at c.later_stages.ensures) ∙ sym (go_on _ _ _ length.0 ∙ go_on _ _ _ checks.0)
