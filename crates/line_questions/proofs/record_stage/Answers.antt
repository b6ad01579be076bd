-- A line's questions, asked in their order; the first whose answer is no ends the stage. Where 23 stands, the list goes no
-- further until the mode is known: rules of its own take it on.
use Prim.Native.Nat.{ℕ, ◌≤◌}
use mathlib.Core.Path.{◌≡◌}
use mathlib.Core.Bool.{true}
use borrow.Author.Rules.{rules}
use Rattle.sheet.specs.Questions.{within, kind_and_operand_questions, record_questions}
use Rattle.line_questions.proofs.SelfXor.{self_xor_passes, self_xor_refuses, fields_come}
use Rattle.sheet.proofs.Testing.{granted, within_least, within_most}
use Rattle.answers.proofs.Answering.{stage}
use Rattle.line_questions.proofs.record_stage.Goals as goal

-- question 9 bounds the kind's number
least : (k : ℕ) → within 1 9 k ≡ true → 1 ≤ k
least k e = within_least 1 9 k e

most : (k : ℕ) → within 1 9 k ≡ true → k ≤ 9
most k e = within_most 1 9 k e

pub returns-then-not-within : goal.returns-then-not-within
unfolding record_questions kind_and_operand_questions
returns-then-not-within c = search stage depth 8

pub returns-then-not-operands_earlier : goal.returns-then-not-operands_earlier
unfolding record_questions kind_and_operand_questions
returns-then-not-operands_earlier c = search stage depth 8

pub returns-then-not-operands_differ : goal.returns-then-not-operands_differ
unfolding record_questions kind_and_operand_questions
returns-then-not-operands_differ c = search stage depth 8

pub returns-then-not-self_xor_admitted : goal.returns-then-not-self_xor_admitted
unfolding record_questions kind_and_operand_questions
returns-then-not-self_xor_admitted c = search (stage, self_xor_refuses) depth 8

pub fields_stage-requires : goal.fields_stage-requires
fields_stage-requires c = (search rules, search (least, granted), search (most, granted))

pub returns : goal.returns
unfolding record_questions kind_and_operand_questions
returns c = search (stage, self_xor_passes, fields_come) depth 8
