-- Length, then the later stages: a refusal is handed on as it is.
use mathlib.Core.Path.{sym, ◌∙◌, subst}
use lib.ListN.{length}
use Rattle.sheet.specs.Questions.{questions, check_questions}
use Rattle.sheet.specs.Facts.{Whole}
use Rattle.sheet.proofs.Asking.{go_on}
use Rattle.sheet.proofs.Settled.{whole}
use Rattle.answers.proofs.Answering.{asked, hand_on}
use Rattle.reading.proofs.sealing_stages.Goals as goal

pub returns-in_default : goal.returns-in_default
unfolding questions
returns-in_default c = hand_on _ _ _ _ _ _ c.length_stage-length.ensures c.in_default.is

pub later_stages-requires : goal.later_stages-requires
later_stages-requires c =
    let length = asked _ _ _ _ c.length_stage-length.ensures c.in-Ok.is in
    subst (Whole _) length.1 (whole _ length.0)

pub returns : goal.returns
unfolding questions check_questions
returns c =
    let length = asked _ _ _ _ c.length_stage-length.ensures c.in-Ok.is in
    (rw (← length.1) at c.later_stages.ensures) ∙ sym (go_on _ _ _ length.0)
