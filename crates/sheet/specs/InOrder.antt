-- All questions in their order; 3 to 15 and 23 are written out (document 01, "Questions, in order"; document 02, W-205).
use Rattle.std.specs.Prelude.{ℕ, ◌+◌, ◌-◌, ◌≡◌, not, List, [], ◌∷◌, ◌++◌}
use Rattle.words.specs.Words.{is_word}
use Rattle.words.specs.Below.{all, concat}
use Rattle.sheet.specs.Form.{width_most, inputs_end}
use Rattle.sheet.specs.Blocks.{check_offset}
use Rattle.sheet.specs.Asking.{Question, ask}
use Rattle.sheet.specs.Fields.{form_of, header_of, record_of}
use Rattle.sheet.specs.Questions.{within, zero_bytes, length_questions, check_question, marked, lines_right, input_right, operands_earlier, operands_differ, amount_right, constant_right, unused_zero, xors_itself, rest_question, questions}
use Rattle.sheet.specs.declared.Header.{Header}
use Rattle.sheet.specs.declared.Record.{Record}
use Rattle.sheet.specs.declared.Mode.TheVariants.{Read, Seal}

-- the six questions of the header
abbrev pub six : List ℕ → Header → List Question
six s h =
    ask (marked s) 3 0
    ∷ ask (within 2 (width_most h.form) h.width) 4 0
    ∷ ask (within 1 8 h.inputs) 5 0
    ∷ ask (lines_right h) 6 0
    ∷ ask (all 8 (input_right s h)) 7 0
    ∷ ask (zero_bytes (check_offset - inputs_end h.form) s (inputs_end h.form)) 8 0
    ∷ []

-- the seven questions of line k
abbrev pub seven : Header → ℕ → Record → List Question
seven h k r =
    ask (within 1 9 r.kind) 9 k
    ∷ ask (operands_earlier r (h.inputs + k)) 10 k
    ∷ ask (operands_differ r) 11 k
    ∷ ask (amount_right r h.width) 12 k
    ∷ ask (constant_right r h.width) 13 k
    ∷ ask (is_word h.width r.difference) 14 k
    ∷ ask (unused_zero r) 15 k
    ∷ []

-- with 23 directly after 11
abbrev pub eight : Header → ℕ → Record → List Question
eight h k r =
    ask (within 1 9 r.kind) 9 k
    ∷ ask (operands_earlier r (h.inputs + k)) 10 k
    ∷ ask (operands_differ r) 11 k
    ∷ ask (not (xors_itself r)) 23 k
    ∷ ask (amount_right r h.width) 12 k
    ∷ ask (constant_right r h.width) 13 k
    ∷ ask (is_word h.width r.difference) 14 k
    ∷ ask (unused_zero r) 15 k
    ∷ []

-- Reading asks 1, 2 of each block, 3 to 8, 9 to 15 of each line and 16 of each line block.
abbrev pub ReadingAsks : Type 0
ReadingAsks =
    (s : List ℕ)
    → questions Read s
    ≡ length_questions s
    ++ (concat (header_of s).blocks (check_question s)
    ++ (six s (header_of s)
    ++ (concat (header_of s).lines (λ k. seven (header_of s) k (record_of (form_of s) s k))
    ++ concat ((header_of s).blocks - 1) (rest_question s (header_of s)))))

-- Sealing leaves out 2, and asks 23 of each line.
abbrev pub SealingAsks : Type 0
SealingAsks =
    (s : List ℕ)
    → questions Seal s
    ≡ length_questions s
    ++ (six s (header_of s)
    ++ (concat (header_of s).lines (λ k. eight (header_of s) k (record_of (form_of s) s k))
    ++ concat ((header_of s).blocks - 1) (rest_question s (header_of s))))
