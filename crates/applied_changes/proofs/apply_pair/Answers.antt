-- 17 and 14 are asked, and the change is made only then.
use mathlib.Core.Path.{ap, ◌∙◌}
use Rattle.change_lists.specs.Applied.{reply_of}
use Rattle.changed_sheets.proofs.Stage.{own_asked, all_passed, change_refused, change_made}
use Rattle.applied_changes.proofs.apply_pair.Goals as goal

pub returns-in-Err : goal.returns-in-Err
returns-in-Err c =
    let a = c.args in
    let left = change_refused a.sheet.now a.k a.difference (own_asked c.requires a.k a.difference c.in-Err.ensures) in
    (c.number.ensures ∙ ap reply_of left.0, left.1)

pub change_difference-requires : goal.change_difference-requires
change_difference-requires c =
    let p = all_passed c.requires c.args.k c.args.difference c.in_default.ensures in
    (p.read, p.known)

pub returns : goal.returns
returns c =
    let p = all_passed c.requires c.args.k c.args.difference c.in_default.ensures in
    let made = change_made p c.change_difference.ensures in
    (ap reply_of made.0, made.1)
