-- By computation: a sheet with one byte of the header wrong is refused by sealing with number and place; lines, what lies past them,
-- lengths and checks are asked alone.
use mathlib.Core.Path.{◌≡◌, refl}
use mathlib.Core.List.{List, [], ◌∷◌, ◌++◌, map}
use Prim.Native.Nat.{ℕ, ◌-◌}
use lib.ListN.{set, replicate}
use Rattle.words.specs.Below.{all, total, tabulate}
use Rattle.buffers.specs.LittleEndian.{number_at}
use Rattle.trail.specs.Kinds.{kind_of}
use Rattle.trail.specs.Runs.{is_start}
use Rattle.sheet.specs.Asking.{Question, Verdict, verdict}
use Rattle.sheet.specs.Asking.Verdict.{accepted, refused}
use Rattle.sheet.specs.Fields.{form_of, header_of, trail_of, record_of, record_position}
use Rattle.sheet.specs.Checks.{check_of}
use Rattle.sheet.specs.Questions.{within, zero_bytes, length_questions, check_question, check_questions, marked, lines_right, input_right, header_questions, operands_earlier, operands_differ, amount_right, constant_right, unused_zero, xors_itself, kind_and_operand_questions, self_xor_questions, field_questions, record_questions, line_questions, record_rest, block_rest, rest_question, later_questions, questions, line_number_questions, room_questions, start_questions}
use Rattle.sheet.specs.declared.Form.TheVariants.{Narrow}
use Rattle.sheet.specs.declared.Header.{Header}
use Rattle.sheet.specs.declared.Record.{Record}
use Rattle.sheet.specs.declared.Mode.{Mode}
use Rattle.sheet.specs.declared.Mode.TheVariants.{Read, Seal}

-- ---- one byte of a sheet set, and what is refused then

-- n is 2, m is 1, L is 2; both lines are word 0 XOR the constant 0, and all differences are 0. The checks are wrong: sealing does not
-- ask for them.
unfoldable pub two_lines : List ℕ
two_lines =
    (0x41 ∷ 0x52 ∷ 0x58 ∷ 0x54 ∷ 2 ∷ 1 ∷ 2 ∷ []) ++ (replicate 501 0 ++ (check ++ (line ++ (line ++ (replicate 476 0 ++ check)))))
  where
    line : List ℕ
    line = 2 ∷ replicate 15 0

    check : List ℕ
    check = replicate 4 0xFF

-- a byte's position, what it is set to, and the refusal's number and place
pub record Case : Type 0 where
  pub position : ℕ
  pub byte : ℕ
  pub number : ℕ
  pub place : ℕ

abbrev pub case : ℕ → ℕ → ℕ → ℕ → Case
case i b n p = record { position = i; byte = b; number = n; place = p }

-- The answers are the cases'. What is asked takes the sheet and the place.
abbrev pub Refused : (List ℕ → ℕ → List Question) → List Case → Type 0
Refused asks cs =
    map (λ (c : Case). verdict {A = ℕ} (asks (set two_lines c.position c.byte) c.place) 0) cs
    ≡ map (λ (c : Case). refused c.number c.place) cs

-- L 32 needs two line blocks; 507 is the last byte before the header's check.
pub header_refusals : Refused (λ s k. questions Seal s) (
    case 3 0x55 3 0
    ∷ case 4 1 4 0
    ∷ case 4 33 4 0
    ∷ case 5 9 5 0
    ∷ case 6 32 6 0
    ∷ case 12 1 7 0
    ∷ case 507 1 8 0
    ∷ []
    )
unfolding two_lines verdict within zero_bytes length_questions check_questions marked lines_right input_right header_questions later_questions questions all number_at form_of
header_refusals = refl

-- What sealing asks of a line, at the line's place. 512 and 528 are the two lines' kinds, 534 is in line 1's zero field.
pub line_refusals : Refused (λ s k. line_questions Seal s (header_of s) k) (case 512 1 23 0 ∷ case 528 1 23 1 ∷ case 534 1 15 1 ∷ [])
unfolding two_lines verdict within operands_earlier operands_differ amount_right constant_right unused_zero xors_itself kind_and_operand_questions self_xor_questions field_questions record_questions line_questions number_at kind_of form_of record_of record_position
line_refusals = refl

-- 544 is in the first record past L, in line block 1.
pub rest_refusals : Refused (λ s b. rest_question s (header_of s) (b - 1)) (case 544 1 16 1 ∷ [])
unfolding two_lines verdict zero_bytes record_rest block_rest rest_question all number_at form_of
rest_refusals = refl

-- ---- lengths

-- 1,024 and 4,608 bytes are long enough and not too long; 0, 512, 1,023 and 5,120 are refused.
pub length_answers : map (λ (n : ℕ). verdict {A = ℕ} (length_questions (replicate n 0)) 0) (1024 ∷ 4608 ∷ 0 ∷ 512 ∷ 1023 ∷ 5120 ∷ [])
    ≡ accepted 0 ∷ accepted 0 ∷ refused 1 0 ∷ refused 1 0 ∷ refused 1 0 ∷ refused 1 0 ∷ []
unfolding verdict length_questions within
length_answers = refl

-- ---- one line, and its answer

pub record LineCase : Type 0 where
  pub line : Record
  pub answer : Verdict ℕ

-- a line by its kind, amount, operands and constant
abbrev pub line_case : ℕ → ℕ → ℕ → ℕ → ℕ → Verdict ℕ → LineCase
line_case k r x y c v = record {
  line = record { kind = k; amount = r; first = x; second = y; zero = 0; constant = c; difference = 0 };
  answer = v;
}

-- a line that states a difference
abbrev pub stating : ℕ → Verdict ℕ → LineCase
stating d v = record { line = record { kind = 2; amount = 0; first = 0; second = 0; zero = 0; constant = 0; difference = d }; answer = v }

-- As line 1, which makes word 2 (document 02, W-201). No number past 9 is a kind. A shift, 7 or 8, is by 1, as words have two bits, and
-- uses no second operand and no constant. A subtraction, 9, is of two different words before its own, and uses no amount and no
-- constant. Constants and differences have two bits too.
abbrev pub line_cases : List LineCase
line_cases =
    line_case 10 0 0 0 0 (refused 9 1)
    ∷ line_case 7 1 0 0 0 (accepted 0)
    ∷ line_case 7 0 0 0 0 (refused 12 1)
    ∷ line_case 7 2 0 0 0 (refused 12 1)
    ∷ line_case 7 1 0 1 0 (refused 15 1)
    ∷ line_case 8 1 0 0 0 (accepted 0)
    ∷ line_case 8 0 0 0 0 (refused 12 1)
    ∷ line_case 8 2 0 0 0 (refused 12 1)
    ∷ line_case 8 1 0 0 1 (refused 15 1)
    ∷ line_case 9 0 0 1 0 (accepted 0)
    ∷ line_case 9 0 0 2 0 (refused 10 1)
    ∷ line_case 9 0 1 1 0 (refused 11 1)
    ∷ line_case 9 1 0 1 0 (refused 15 1)
    ∷ line_case 9 0 0 1 1 (refused 15 1)
    ∷ line_case 7 1 0 0 1 (refused 15 1)
    ∷ line_case 8 1 0 1 0 (refused 15 1)
    ∷ line_case 9 0 1 0 0 (accepted 0)
    ∷ line_case 2 0 0 0 3 (accepted 0)
    ∷ line_case 2 0 0 0 4 (refused 13 1)
    ∷ line_case 6 0 0 0 4 (refused 13 1)
    ∷ stating 3 (accepted 0)
    ∷ stating 4 (refused 14 1)
    ∷ []

-- of several faults the first question's
abbrev pub faulty_cases : List LineCase
faulty_cases =
    line_case 9 0 2 2 0 (refused 10 1)
    ∷ line_case 7 0 2 0 0 (refused 10 1)
    ∷ line_case 9 1 1 1 0 (refused 11 1)
    ∷ line_case 7 0 0 1 0 (refused 12 1)
    ∷ line_case 7 0 0 0 1 (refused 12 1)
    ∷ record { line = record { kind = 2; amount = 1; first = 0; second = 1; zero = 1; constant = 0; difference = 4 }; answer = refused 14 1 }
    ∷ record { line = record { kind = 8; amount = 0; first = 0; second = 0; zero = 0; constant = 4; difference = 4 }; answer = refused 12 1 }
    ∷ []

-- a header as that of two_lines, with words of n bits
abbrev pub header_at : ℕ → Header
header_at n = record { form = Narrow; blocks = 2; width = n; inputs = 1; lines = 2 }

-- with words of eight bits shifts are by 1 to 7
abbrev pub wide_cases : List LineCase
wide_cases =
    line_case 7 7 0 0 0 (accepted 0)
    ∷ line_case 7 8 0 0 0 (refused 12 1)
    ∷ line_case 8 7 0 0 0 (accepted 0)
    ∷ line_case 8 8 0 0 0 (refused 12 1)
    ∷ []

-- words XORed with themselves, in reading (document 02, W-205)
abbrev pub read_cases : List LineCase
read_cases =
    line_case 1 0 1 1 0 (accepted 0)
    ∷ line_case 1 0 2 2 0 (refused 10 1)
    ∷ line_case 1 1 1 1 0 (refused 15 1)
    ∷ []

-- In sealing 23 is asked of kind 1 alone, after 10 and before 14 and 15, whatever the line's other fields are. A difference of 4 has a
-- third bit.
abbrev pub seal_cases : List LineCase
seal_cases =
    line_case 1 0 1 1 0 (refused 23 1)
    ∷ line_case 1 0 0 0 0 (refused 23 1)
    ∷ line_case 1 0 1 0 0 (accepted 0)
    ∷ line_case 1 0 2 2 0 (refused 10 1)
    ∷ line_case 1 1 1 1 0 (refused 23 1)
    ∷ line_case 1 0 1 1 1 (refused 23 1)
    ∷ record { line = record { kind = 1; amount = 0; first = 1; second = 1; zero = 1; constant = 0; difference = 0 }; answer = refused 23 1 }
    ∷ record { line = record { kind = 1; amount = 0; first = 1; second = 1; zero = 0; constant = 0; difference = 4 }; answer = refused 23 1 }
    ∷ line_case 2 0 0 0 0 (accepted 0)
    ∷ line_case 3 1 0 0 0 (accepted 0)
    ∷ line_case 4 1 0 0 0 (accepted 0)
    ∷ line_case 5 0 1 1 0 (refused 11 1)
    ∷ line_case 6 0 0 0 0 (accepted 0)
    ∷ line_case 7 1 0 0 0 (accepted 0)
    ∷ line_case 8 1 0 0 0 (accepted 0)
    ∷ line_case 9 0 1 1 0 (refused 11 1)
    ∷ []

-- the answers are those of the cases
abbrev pub Answered : Mode → ℕ → List LineCase → Type 0
Answered mode n cs =
    map (λ (c : LineCase). verdict (record_questions mode (header_at n) 1 c.line) 0) cs ≡ map (λ (c : LineCase). c.answer) cs

pub line_answers : Answered Read 2 line_cases × Answered Read 2 faulty_cases × Answered Read 8 wide_cases
unfolding two_lines verdict within operands_earlier operands_differ amount_right constant_right unused_zero xors_itself kind_and_operand_questions self_xor_questions field_questions record_questions number_at kind_of form_of
line_answers = (refl, refl, refl)

pub self_xor_answers : Answered Read 2 read_cases × Answered Seal 2 seal_cases
unfolding two_lines verdict within operands_earlier operands_differ amount_right constant_right unused_zero xors_itself kind_and_operand_questions self_xor_questions field_questions record_questions number_at kind_of form_of
self_xor_answers = (refl, refl)

-- ---- checks

-- the check of a block without bytes, which read as zeros, is its index
pub check_of_zeros : check_of [] 7 ≡ 7
unfolding check_of total number_at
check_of_zeros = refl

-- so a check of 0 is right in block 0 and wrong in block 1, whose place is 1
pub check_answers : map (λ (b : ℕ). verdict {A = ℕ} (check_question [] b) 0) (0 ∷ 1 ∷ []) ≡ accepted 0 ∷ refused 2 1 ∷ []
unfolding verdict check_question check_of total number_at
check_answers = refl

-- ---- the calls' own questions

-- the verdict of questions that stand alone
abbrev pub alone : List Question → Verdict ℕ
alone own = verdict own 0

-- The two lines are line 0 and line 1, and words have two bits. Room for 16 is enough for 16.
pub own_refusals : map alone (
    line_number_questions (header_of two_lines) 1
    ∷ line_number_questions (header_of two_lines) 2
    ∷ room_questions 16 16
    ∷ room_questions 16 15
    ∷ start_questions (trail_of two_lines) (3 ∷ [])
    ∷ start_questions (trail_of two_lines) (4 ∷ [])
    ∷ []
    )
    ≡ accepted 0 ∷ refused 17 0 ∷ accepted 0 ∷ refused 18 0 ∷ accepted 0 ∷ refused 19 0 ∷ []
unfolding two_lines verdict trail_of tabulate number_at form_of record_of record_position is_start all
own_refusals = refl
