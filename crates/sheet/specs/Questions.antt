-- The questions of a sheet and of the calls on it (document 01, "Questions, in order"; document 02, W-201 for kinds 7 to 9 and W-205
-- for question 23): each with its answer, its number and its place.
use Rattle.std.specs.Prelude.{ℕ, ◌+◌, ◌*◌, ◌/◌, ◌%◌, ◌-◌, ◌≡◌, List, [], ◌∷◌, ◌++◌, Bool, true, not, ◌&&◌, ◌||◌, cond, length, leb, ltb, eqb}
use Rattle.words.specs.Words.{is_word}
use Rattle.words.specs.Below.{all, concat}
use Rattle.buffers.specs.LittleEndian.{byte_at, number_at}
use Rattle.trail.specs.Kinds.{kind_of, uses_second, uses_amount, uses_constant, wants_distinct}
use Rattle.trail.specs.Trail.{Trail}
use Rattle.trail.specs.Runs.{is_start}
use Rattle.sheet.specs.Form.{width_most, record_bytes, records_in_block, tail_bytes, inputs_end}
use Rattle.sheet.specs.Blocks.{block_bytes, check_offset, length_least, length_most}
use Rattle.sheet.specs.Asking.{Question, ask, all_yes}
use Rattle.sheet.specs.Fields.{header_of, input_difference, record_of}
use Rattle.sheet.specs.Checks.{check_of, check_position}
use Rattle.sheet.specs.declared.Form.{Form}
use Rattle.sheet.specs.declared.Header.{Header}
use Rattle.sheet.specs.declared.Record.{Record}
use Rattle.sheet.specs.declared.Mode.{Mode}
use Rattle.sheet.specs.declared.Mode.TheVariants.{Read, Seal}

-- whether x is from a to b
unfoldable pub within : ℕ → ℕ → ℕ → Bool
within a b x = leb a x && leb x b

-- whether the k bytes at a position are zero
unfoldable pub zero_bytes : ℕ → List ℕ → ℕ → Bool
zero_bytes k s i = all k (λ j. eqb (byte_at s (i + j)) 0)

-- Is the length a multiple of 512 from 1,024 to 4,608? 1
unfoldable pub length_questions : List ℕ → List Question
length_questions s = ask (eqb (length s % block_bytes) 0 && within length_least length_most (length s)) 1 0 ∷ []

-- Is each block's check right? 2, place: first wrong block. Sealing leaves out this question.
unfoldable pub check_question : List ℕ → ℕ → List Question
check_question s b = ask (eqb (number_at 4 s (check_position b)) (check_of s b)) 2 b ∷ []

unfoldable pub check_questions : Mode → List ℕ → Header → List Question
check_questions Read s h = concat h.blocks (check_question s)
check_questions Seal s h = []

-- bytes 0 to 3 are hexadecimal 41 52 58 54
unfoldable pub marked : List ℕ → Bool
marked s = eqb (byte_at s 0) 0x41 && (eqb (byte_at s 1) 0x52 && (eqb (byte_at s 2) 0x58 && eqb (byte_at s 3) 0x54))

-- as many line blocks as L needs at 31 each
abbrev pub line_blocks : Form → ℕ → ℕ
line_blocks f lines = (lines + (records_in_block f - 1)) / records_in_block f

-- L is from 1 to 248, with just as many line blocks as L needs at 31 each
unfoldable pub lines_right : Header → Bool
lines_right h = within 1 248 h.lines && eqb (h.blocks - 1) (line_blocks h.form h.lines)

-- input difference j is below 2 ^ n if it is among the first m, else 0
unfoldable pub input_right : List ℕ → Header → ℕ → Bool
input_right s h j =
    cond (ltb j h.inputs) (is_word h.width (input_difference h.form s j)) (eqb (input_difference h.form s j) 0)

-- Are the four mark bytes there? 3
-- Is n from 2 to 32? 4
-- Is m from 1 to 8? 5
-- Is L from 1 to 248, with just as many line blocks as L needs at 31 each? 6
-- Are the first m input differences below 2 ^ n, the others 0? 7
-- Are the header's remaining bytes before its check zero? 8
unfoldable pub header_questions : List ℕ → Header → List Question
header_questions s h =
    ask (marked s) 3 0
    ∷ ask (within 2 (width_most h.form) h.width) 4 0
    ∷ ask (within 1 8 h.inputs) 5 0
    ∷ ask (lines_right h) 6 0
    ∷ ask (all 8 (input_right s h)) 7 0
    ∷ ask (zero_bytes (check_offset - inputs_end h.form) s (inputs_end h.form)) 8 0
    ∷ []

-- each used operand is an earlier word: line k makes word m + k
unfoldable pub operands_earlier : Record → ℕ → Bool
operands_earlier r word = ltb r.first word && (not (uses_second (kind_of r.kind)) || ltb r.second word)

-- for kinds 5 and 9, the operands name different words
unfoldable pub operands_differ : Record → Bool
operands_differ r = not (wants_distinct (kind_of r.kind)) || not (eqb r.first r.second)

-- for kinds 3, 4, 7 and 8, the amount is 1 to n - 1
unfoldable pub amount_right : Record → ℕ → Bool
amount_right r n = not (uses_amount (kind_of r.kind)) || within 1 (n - 1) r.amount

-- for kinds 2, 6, the constant is below 2 ^ n
unfoldable pub constant_right : Record → ℕ → Bool
constant_right r n = not (uses_constant (kind_of r.kind)) || is_word n r.constant

-- the record's zero field and unused fields are zero
unfoldable pub unused_zero : Record → Bool
unused_zero r =
    eqb r.zero 0
    && ((uses_amount (kind_of r.kind) || eqb r.amount 0)
    && ((uses_second (kind_of r.kind) || eqb r.second 0)
    && (uses_constant (kind_of r.kind) || eqb r.constant 0)))

-- kind 1 with equal operands: a word XORed with itself
unfoldable pub xors_itself : Record → Bool
xors_itself r = eqb r.kind 1 && eqb r.first r.second

-- Of a line, place: the line.
-- Is the kind 1 to 9? 9
-- Is each used operand an earlier word? 10
-- For kinds 5 and 9, do the operands name different words? 11
unfoldable pub kind_and_operand_questions : Header → ℕ → Record → List Question
kind_and_operand_questions h k r =
    ask (within 1 9 r.kind) 9 k
    ∷ ask (operands_earlier r (h.inputs + k)) 10 k
    ∷ ask (operands_differ r) 11 k
    ∷ []

-- Of a line, in sealing only, place: the line.
-- For kind 1, do the operands name different words? 23
unfoldable pub self_xor_questions : Mode → ℕ → Record → List Question
self_xor_questions Read k r = []
self_xor_questions Seal k r = ask (not (xors_itself r)) 23 k ∷ []

-- Of a line, place: the line.
-- For kinds 3, 4, 7 and 8, is the amount 1 to n - 1? 12
-- For kinds 2, 6, is the constant below 2 ^ n? 13
-- Is the difference below 2 ^ n? 14
-- Are the record's zero field and unused fields zero? 15
unfoldable pub field_questions : Header → ℕ → Record → List Question
field_questions h k r =
    ask (amount_right r h.width) 12 k
    ∷ ask (constant_right r h.width) 13 k
    ∷ ask (is_word h.width r.difference) 14 k
    ∷ ask (unused_zero r) 15 k
    ∷ []

-- all questions of a line: 23 directly after 11
unfoldable pub record_questions : Mode → Header → ℕ → Record → List Question
record_questions mode h k r = kind_and_operand_questions h k r ++ (self_xor_questions mode k r ++ field_questions h k r)

unfoldable pub line_questions : Mode → List ℕ → Header → ℕ → List Question
line_questions mode s h k = record_questions mode h k (record_of h.form s k)

-- Line block 1 + i has the records of lines 31 i to 31 i + 30, then 12 bytes: those past L, and the 12 bytes, are zero.
unfoldable pub record_rest : List ℕ → Header → ℕ → ℕ → Bool
record_rest s h i j =
    ltb (records_in_block h.form * i + j) h.lines
    || zero_bytes (record_bytes h.form) s (block_bytes * (1 + i) + record_bytes h.form * j)

unfoldable pub block_rest : List ℕ → Header → ℕ → Bool
block_rest s h i =
    all (records_in_block h.form) (record_rest s h i)
    && zero_bytes (tail_bytes h.form) s (block_bytes * (1 + i) + record_bytes h.form * records_in_block h.form)

-- Are records past L and the 12 bytes zero in every line block? 16, place: first such block
unfoldable pub rest_question : List ℕ → Header → ℕ → List Question
rest_question s h i = ask (block_rest s h i) 16 (1 + i) ∷ []

-- questions 3 to 16, with 23 among them in sealing
unfoldable pub later_questions : Mode → List ℕ → Header → List Question
later_questions mode s h =
    header_questions s h ++ (concat h.lines (line_questions mode s h) ++ concat (h.blocks - 1) (rest_question s h))

-- the sixteen questions, in order; in sealing without the second and with 23
unfoldable pub questions : Mode → List ℕ → List Question
questions mode s = length_questions s ++ (check_questions mode s (header_of s) ++ later_questions mode s (header_of s))

-- an accepted sheet is one with yes to all of questions 1 to 16
abbrev pub IsAccepted : List ℕ → Type 0
IsAccepted s = all_yes (questions Read s) ≡ true

-- Calls on a sheet go through all of these, then such of the following as concern what the call takes, place 0.

-- Is the line number below L? 17
abbrev pub line_number_questions : Header → ℕ → List Question
line_number_questions h k = ask (ltb k h.lines) 17 0 ∷ []

-- Is the output buffer long enough for this very answer? 18
abbrev pub room_questions : ℕ → ℕ → List Question
room_questions need room = ask (leb need room) 18 0 ∷ []

-- Are there exactly m starting words, each below 2 ^ n? 19
abbrev pub start_questions : Trail → List ℕ → List Question
start_questions t x = ask (is_start t x) 19 0 ∷ []
