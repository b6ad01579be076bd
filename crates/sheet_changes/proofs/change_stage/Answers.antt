-- 17, then 14: the first whose answer is no ends the stage.
use Rattle.std.proofs.Common.{arith, le-ltb, lt-ltb}
use Rattle.sheet.proofs.FormSizes.{sizes}
use Rattle.answers.proofs.Answering.{stage}
use Rattle.sheet_changes.proofs.change_stage.Goals as goal

pub returns-then-header-k : goal.returns-then-header-k
returns-then-header-k c = search (stage, le-ltb) depth 8

pub is_word-requires : goal.is_word-requires
is_word-requires c = (omega arith, omega (arith, (sizes c.args.header.form).width_fits))

pub returns-then-not-is_word : goal.returns-then-not-is_word
returns-then-not-is_word c = search (stage, lt-ltb) depth 8

pub returns : goal.returns
returns c = search (stage, lt-ltb) depth 8
