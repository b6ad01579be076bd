-- `change_all` reads, asks 24 and 25, and applies and writes only then.
use borrow.Author.Rules.{rules}
use Rattle.answers.proofs.Calling.{was_read}
use Rattle.changing_all.proofs.Calling.{unread, too_many, too_short, made}
use Rattle.changing_all.proofs.change_all.Goals as goal

pub returns-in_err-header : goal.returns-in_err-header
returns-in_err-header c = unread _ _ _ _ _ c.from_residual.ensures.1 c.in_err-header.ensures

pub returns-then-count-gt64 : goal.returns-then-count-gt64
returns-then-count-gt64 c = too_many _ _ _ (was_read _ c.in_ok-header.ensures) (search rules)

pub returns-then-replies-count : goal.returns-then-replies-count
returns-then-replies-count c = too_short _ _ _ (was_read _ c.in_ok-header.ensures) (search rules) (search rules)

pub apply_pairs-requires : goal.apply_pairs-requires
apply_pairs-requires c = (was_read _ c.in_ok-header.ensures, search rules)

pub returns : goal.returns
returns c =
    let done = c.apply_pairs.ensures in
    made _ _ _ (was_read _ c.in_ok-header.ensures) (search rules) (search rules) done.0 done.1
