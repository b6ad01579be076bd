-- No theorem about accepted sheets is empty: document 01's example is one, by computation.
use mathlib.Core.Path.{◌≡◌, refl}
use mathlib.Core.List.{[], ◌∷◌}
use Rattle.words.specs.Below.{all, total, tabulate, concat}
use Rattle.buffers.specs.LittleEndian.{number_at}
use Rattle.trail.specs.Kinds.{kind_of}
use Rattle.sheet.specs.Asking.{all_yes}
use Rattle.sheet.specs.Fields.{form_of, trail_of, record_of, record_position}
use Rattle.sheet.specs.Checks.{check_of}
use Rattle.sheet.specs.Questions.{within, zero_bytes, length_questions, check_question, check_questions, marked, lines_right, input_right, header_questions, operands_earlier, operands_differ, amount_right, constant_right, unused_zero, kind_and_operand_questions, self_xor_questions, field_questions, record_questions, line_questions, record_rest, block_rest, rest_question, later_questions, questions, IsAccepted}
use Rattle.sheet_example.specs.Example.{example_sheet}

pub example_accepted : IsAccepted example_sheet
unfolding example_sheet all_yes check_of within zero_bytes length_questions check_question check_questions marked lines_right input_right header_questions operands_earlier operands_differ amount_right constant_right unused_zero kind_and_operand_questions self_xor_questions field_questions record_questions line_questions record_rest block_rest rest_question later_questions questions all total concat number_at kind_of form_of record_of record_position
example_accepted = refl

-- n is 2, the one input difference 1; line 0 adds the constant 1 to word 0 and states the difference 3
pub example_trail : trail_of example_sheet ≡ record {
  width = 2;
  inputs = 1 ∷ [];
  lines = record { kind = 6; amount = 0; first = 0; second = 0; constant = 1; difference = 3 } ∷ [];
}
unfolding example_sheet trail_of tabulate number_at form_of record_of record_position
example_trail = refl
