-- What a question asks depends on some bytes alone: two lists that agree there are asked the same.
use Prim.Native.Nat.{ℕ, ◌+◌, ◌*◌, ◌-◌, ◌<◌, ◌≤◌}
use native.Mathlib.Omega.{arith}
use mathlib.Core.Path.{◌≡◌, refl, ap, ap₂}
use mathlib.Core.Bool.{Bool, true, false, ◌&&◌, ◌||◌, cond}
use mathlib.Core.List.{List}
use borrow.Author.Tests.{ltb-false}
use lib.Dec.{eqb, ltb}
use Rattle.words.specs.Words.{is_word}
use Rattle.words.specs.Below.{all}
use Rattle.words.proofs.Below.{all_cong}
use Rattle.sheet.specs.Blocks.{block_bytes, check_offset}
use Rattle.sheet.specs.Form.{word_bytes, record_bytes, records_in_block, tail_bytes, inputs_end}
use Rattle.sheet.specs.Fields.{input_difference}
use Rattle.sheet.specs.Questions.{zero_bytes, input_right, header_questions, record_rest, block_rest}
use Rattle.sheet.specs.declared.Form.{Form}
use Rattle.sheet.specs.declared.Header.{Header}
use Rattle.sheet.proofs.FormSizes.{sizes, input_inside}
use Rattle.sheet.proofs.FieldBytes.{SameAt, same_within, zeros_same, mark_same, input_same}

module _ {s t : List ℕ} where
  -- ---- the header, whose questions are of what stands before its check

  module _ (h : SameAt 0 check_offset s t) where
    pub input_differences_same : (f : Form) (j : ℕ) → j < 8 → input_difference f s j ≡ input_difference f t j
    input_differences_same f j l =
        input_same f j (same_within (8 + word_bytes f * j) (word_bytes f) h (omega (arith, input_inside f j l, (sizes f).inputs_inside)))

    inputs_right_same : (p : Header) → all 8 (input_right s p) ≡ all 8 (input_right t p)
    unfolding input_right
    inputs_right_same p =
        all_cong 8 (input_right s p) (input_right t p)
        (λ j l. ap (λ (d : ℕ). cond (ltb j p.inputs) (is_word p.width d) (eqb d 0)) (input_differences_same p.form j l))

    pub header_questions_same : (p : Header) → header_questions s p ≡ header_questions t p
    unfolding header_questions
    header_questions_same p =
        let end = (sizes p.form).inputs_inside in
        rw (
          mark_same (same_within 0 4 h (omega arith)),
          inputs_right_same p,
          zeros_same (check_offset - inputs_end p.form) (inputs_end p.form) (same_within _ _ h (omega arith)),
        )

  -- ---- question 16, which is of the records past the last line, and of what stands behind the records

  pub rest_same : (p : Header) (i : ℕ)
      → ((j : ℕ) → j < records_in_block p.form → p.lines ≤ records_in_block p.form * i + j
      → SameAt (block_bytes * (1 + i) + record_bytes p.form * j) (record_bytes p.form) s t)
      → SameAt (block_bytes * (1 + i) + record_bytes p.form * records_in_block p.form) (tail_bytes p.form) s t
      → block_rest s p i ≡ block_rest t p i
  unfolding block_rest record_rest
  rest_same p i past behind =
      ap₂ ◌&&◌
      (all_cong records (record_rest s p i) (record_rest t p i) (λ j l. at j l (ltb (records * i + j) p.lines) refl))
      (zeros_same (tail_bytes p.form) (block_bytes * (1 + i) + size * records) behind)
    where
      records : ℕ
      records = records_in_block p.form

      size : ℕ
      size = record_bytes p.form

      at : (j : ℕ) → j < records → (ours : Bool) → ltb (records * i + j) p.lines ≡ ours
          → (ours || zero_bytes size s (block_bytes * (1 + i) + size * j)) ≡ (ours || zero_bytes size t (block_bytes * (1 + i) + size * j))
      at j l true e = refl
      at j l false e = zeros_same size (block_bytes * (1 + i) + size * j) (past j l (ltb-false (records * i + j) p.lines e))
