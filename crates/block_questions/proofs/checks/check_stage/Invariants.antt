-- The loop's invariant: the checks of all blocks passed are right.
use Rattle.std.proofs.Common.{◌≡◌, ◌-◌, ◌≤◌, true}
use Rattle.words.specs.Below.{concat}
use Rattle.sheet.specs.Asking.{all_yes}
use Rattle.sheet.specs.Questions.{check_question}
use Rattle.block_questions.proofs.checks.check_stage.Given as goal

abbrev pub invariant-loop-block : goal.invariant-loop-block
invariant-loop-block l = all_yes (concat l.block (check_question l.s)) ≡ true
