-- A sheet that was sealed earlier with a word XORed with itself (document 02, W-205), by computation: it is accepted, and sealing it
-- afresh refuses it.
use mathlib.Core.Path.{◌≡◌, refl}
use mathlib.Core.List.{List, [], ◌∷◌, ◌++◌}
use Prim.Native.Nat.{ℕ}
use lib.ListN.{replicate}
use Rattle.words.specs.Below.{all, total, concat}
use Rattle.buffers.specs.LittleEndian.{number_at}
use Rattle.trail.specs.Kinds.{kind_of}
use Rattle.sheet.specs.Asking.{all_yes, verdict}
use Rattle.sheet.specs.Asking.Verdict.{refused}
use Rattle.sheet.specs.Fields.{form_of, record_of, record_position}
use Rattle.sheet.specs.Checks.{check_of}
use Rattle.sheet.specs.Questions.{within, zero_bytes, length_questions, check_question, check_questions, marked, lines_right, input_right, header_questions, operands_earlier, operands_differ, amount_right, constant_right, unused_zero, xors_itself, kind_and_operand_questions, self_xor_questions, field_questions, record_questions, line_questions, record_rest, block_rest, rest_question, later_questions, questions, IsAccepted}
use Rattle.sheet.specs.declared.Mode.TheVariants.{Seal}

-- document 01's example, with word 0 XOR word 0 and the difference 0 for its line
unfoldable pub self_xor_sheet : List ℕ
self_xor_sheet =
    (0x41 ∷ 0x52 ∷ 0x58 ∷ 0x54 ∷ 0x02 ∷ 0x01 ∷ 0x01 ∷ 0x00 ∷ 0x01 ∷ [])
    ++ (replicate 499 0
    ++ ((0x44 ∷ 0x53 ∷ 0x59 ∷ 0x54 ∷ [])
    ++ ((0x01 ∷ [])
    ++ (replicate 507 0
    ++ (0x02 ∷ 0x00 ∷ 0x00 ∷ 0x00 ∷ [])))))

pub self_xor_accepted : IsAccepted self_xor_sheet
unfolding self_xor_sheet all_yes check_of within zero_bytes length_questions check_question check_questions marked lines_right input_right header_questions operands_earlier operands_differ amount_right constant_right unused_zero kind_and_operand_questions self_xor_questions field_questions record_questions line_questions record_rest block_rest rest_question later_questions questions all total concat number_at kind_of form_of record_of record_position
self_xor_accepted = refl

pub self_xor_unsealed : verdict {A = ℕ} (questions Seal self_xor_sheet) 0 ≡ refused 23 0
unfolding self_xor_sheet verdict within zero_bytes length_questions check_questions marked lines_right input_right header_questions operands_earlier operands_differ xors_itself kind_and_operand_questions self_xor_questions field_questions record_questions line_questions later_questions questions all concat number_at kind_of form_of record_of record_position
self_xor_unsealed = refl
