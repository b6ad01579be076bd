-- Lists of bytes that are the same outside the checks have the same fields, the same checks and the same questions, the checks'
-- own left out.
use Prim.Native.Nat.{ℕ, ◌+◌, ◌*◌, ◌-◌, ◌/◌, ◌%◌, ◌<◌, ◌≤◌}
use native.Mathlib.Omega.{arith}
use mathlib.Core.Path.{◌≡◌, sym, ap, ap₂, ◌∙◌}
use mathlib.Core.List.{List, [], ◌∷◌, ◌++◌}
use Rattle.words.specs.Below.{tabulate}
use Rattle.words.proofs.Below.{tabulate_cong, concat_cong}
use Rattle.sheet.specs.Asking.{ask}
use Rattle.sheet.specs.Blocks.{block_bytes, check_offset}
use Rattle.sheet.specs.Form.{record_bytes, records_in_block, tail_bytes}
use Rattle.sheet.specs.Fields.{form_of, header_of, input_difference, record_position, record_of, line_of, trail_of}
use Rattle.sheet.specs.Checks.{check_of}
use Rattle.sheet.specs.Questions.{length_questions, check_questions, record_questions, line_questions, block_rest, rest_question, later_questions, questions}
use Rattle.sheet.proofs.FormSizes.{sizes, record_ends, line_ends}
use Rattle.sheet.proofs.FieldBytes.{SameAt, check_same, header_same, record_same}
use Rattle.sheet.proofs.QuestionBytes.{input_differences_same, header_questions_same, rest_same}
use Rattle.sealed_sheets.specs.Demands.{SameButChecks}
use Rattle.sheet.specs.declared.Form.{Form}
use Rattle.sheet.specs.declared.Header.{Header}
use Rattle.sheet.specs.declared.Mode.{Mode}
use Rattle.sheet.specs.declared.Mode.TheVariants.{Seal}

pub same_symm : {s t : List ℕ} → SameButChecks s t → SameButChecks t s
same_symm h = record { same_length = sym h.same_length; same_byte = λ i l. sym (h.same_byte i l) }

module _ {s t : List ℕ} (h : SameButChecks s t) where
  -- what lies in a block before its check
  same_at : (k i : ℕ) → i % block_bytes + k ≤ check_offset → SameAt i k s t
  same_at k i l = record { byte = λ j g. h.same_byte (i + j) (omega arith) }

  pub same_check : (b : ℕ) → check_of s b ≡ check_of t b
  same_check b = check_same b (same_at check_offset (block_bytes * b) (omega arith))

  -- ---- the fields

  pub same_header : header_of s ≡ header_of t
  same_header = header_same h.same_length (same_at 8 0 (omega arith))

  same_first : SameAt 0 check_offset s t
  same_first = same_at check_offset 0 (omega arith)

  same_record : (f : Form) (k : ℕ) → record_of f s k ≡ record_of f t k
  unfolding record_of record_position
  same_record f k =
      record_same f (block_bytes * (1 + k / records_in_block f) + record_bytes f * (k % records_in_block f))
      (same_at (record_bytes f) _ (omega (arith, line_ends f k)))

  -- ---- the questions

  pub same_length_questions : length_questions s ≡ length_questions t
  unfolding length_questions
  same_length_questions = rw h.same_length

  same_rest : (p : Header) (i : ℕ) → block_rest s p i ≡ block_rest t p i
  same_rest p i =
      let f = p.form in
      rest_same p i
      (λ j l past. same_at (record_bytes f) (block_bytes * (1 + i) + record_bytes f * j) (omega (arith, record_ends f j l)))
      (same_at (tail_bytes f) (block_bytes * (1 + i) + record_bytes f * records_in_block f) (omega (arith, (sizes f).filled)))

  pub same_later : (mode : Mode) (p : Header) → later_questions mode s p ≡ later_questions mode t p
  unfolding later_questions line_questions rest_question
  same_later mode p =
      ap₂ ◌++◌ (header_questions_same same_first p)
      (ap₂ ◌++◌
      (concat_cong p.lines (line_questions mode s p) (line_questions mode t p) (λ k l. ap (record_questions mode p k) (same_record p.form k)))
      (concat_cong (p.blocks - 1) (rest_question s p) (rest_question t p) (λ i l. ap (λ a. ask a 16 (1 + i) ∷ []) (same_rest p i))))

  pub same_questions : questions Seal s ≡ questions Seal t
  unfolding questions check_questions
  same_questions =
      ap₂ ◌++◌ same_length_questions (same_later Seal (header_of s) ∙ ap (later_questions Seal t) same_header)

  -- ---- the trail

  pub same_trail : (header_of s).inputs ≤ 8 → trail_of s ≡ trail_of t
  unfolding trail_of
  same_trail few =
      let f = form_of s in
      let width = ap (λ (p : Header). p.width) same_header in
      let inputs = tabulate_cong (header_of s).inputs (input_difference f s) (input_difference f t) (λ j l. input_differences_same same_first f j (omega arith)) ∙ ap (λ (p : Header). tabulate p.inputs (input_difference p.form t)) same_header in
      let lines = tabulate_cong (header_of s).lines (λ k. line_of (record_of f s k)) (λ k. line_of (record_of f t k)) (λ k l. ap line_of (same_record f k)) ∙ ap (λ (p : Header). tabulate p.lines (λ k. line_of (record_of p.form t k))) same_header in
      λ i. record { width = width i; inputs = inputs i; lines = lines i }
