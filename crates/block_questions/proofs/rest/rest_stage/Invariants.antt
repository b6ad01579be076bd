-- The invariant: the rest of the line blocks passed is zero.
use Rattle.std.proofs.Common.{◌≡◌, ◌-◌, ◌≤◌, true}
use Rattle.words.specs.Below.{concat}
use Rattle.sheet.specs.Asking.{all_yes}
use Rattle.sheet.specs.Questions.{rest_question}
use Rattle.block_questions.proofs.rest.rest_stage.Given as goal

abbrev pub invariant-loop-i : goal.invariant-loop-i
invariant-loop-i l = (l.line_blocks ≡ l.header.blocks - 1) × (all_yes (concat l.i (rest_question l.s l.header)) ≡ true)
