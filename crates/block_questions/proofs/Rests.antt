-- What is no line's in a line block is one stretch of bytes: from the record after the block's last line to the check.
use Rattle.std.proofs.Common.{◌≡◌, ℕ, zero, suc, ◌+◌, ◌-◌, ◌*◌, ◌<◌, ◌≤◌, ◌&&◌, eqb, List, sym, refl, ap, ◌∙◌, ap₂, mul-zero, mul-suc, mul-add, arith, le-ltb, lt-ltb}
use Rattle.words.specs.Below.{all}
use Rattle.words.proofs.Below.{all_cong, all_split, all_yes_lem}
use Rattle.buffers.specs.LittleEndian.{byte_at}
use Rattle.sheet.specs.Blocks.{block_bytes, check_offset}
use Rattle.sheet.specs.Form.{record_bytes, records_in_block, tail_bytes}
use Rattle.sheet.specs.Questions.{zero_bytes, record_rest, block_rest}
use Rattle.sheet.specs.declared.Header.{Header}
use Rattle.sheet.proofs.FormSizes.{rest_bytes, rest_ends}

module _ (s : List ℕ) where
  zeros_split : (a b at : ℕ) → zero_bytes (a + b) s at ≡ (zero_bytes a s at && zero_bytes b s (at + a))
  unfolding zero_bytes
  zeros_split a b at =
      all_split a b (λ j. eqb (byte_at s (at + j)) 0)
      ∙ ap (λ t. zero_bytes a s at && t)
      (all_cong b (λ j. eqb (byte_at s (at + (a + j))) 0) (λ j. eqb (byte_at s (at + a + j)) 0)
      (λ j _. ap (λ (x : ℕ). eqb (byte_at s x) 0) (omega arith)))

  zeros : (k k' at at' : ℕ) → k ≡ k' → at ≡ at' → zero_bytes k s at ≡ zero_bytes k' s at'
  zeros k k' at at' e f = ap₂ (λ (x y : ℕ). zero_bytes x s y) e f

  -- records of any size, one after the other
  records : (size d at : ℕ) → all d (λ j. zero_bytes size s (at + size * j)) ≡ zero_bytes (size * d) s at
  unfolding zero_bytes all
  records size zero at = sym (zeros (size * 0) 0 at at (mul-zero size) refl)
  records size (suc d) at =
      ap (λ t. t && zero_bytes size s (at + size * d)) (records size d at)
      ∙ sym (zeros_split (size * d) size at)
      ∙ zeros (size * d + size) (size * suc d) at at (sym (mul-suc size d)) refl

  -- where the first j records of the block are lines', and no other is
  module _ (h : Header) (i j : ℕ) where
    pub rest_from : ((r : ℕ) → r < j → records_in_block h.form * i + r < h.lines)
        → ((r : ℕ) → j ≤ r → r < records_in_block h.form → h.lines ≤ records_in_block h.form * i + r)
        → j ≤ records_in_block h.form
        → zero_bytes (check_offset - record_bytes h.form * j) s (block_bytes * (1 + i) + record_bytes h.form * j) ≡ block_rest s h i
    unfolding block_rest record_rest
    rest_from ours past l =
        zeros (check_offset - size * j) (size * left + tail_bytes h.form) at at (rest_bytes h.form j l) refl
        ∙ zeros_split (size * left) (tail_bytes h.form) at
        ∙ ap₂ ◌&&◌ (sym rows)
        (zeros (tail_bytes h.form) (tail_bytes h.form) (at + size * left) (block_bytes * (1 + i) + size * whole) refl (omega (arith, rest_ends h.form j l)))
      where
        size : ℕ
        size = record_bytes h.form

        whole : ℕ
        whole = records_in_block h.form

        left : ℕ
        left = whole - j

        at : ℕ
        at = block_bytes * (1 + i) + size * j

        row : (r : ℕ) → r < left → record_rest s h i (j + r) ≡ zero_bytes size s (at + size * r)
        row r m =
            rw (le-ltb (whole * i + (j + r)) h.lines (past (j + r) (omega arith) (omega arith)))
            (zeros size size (block_bytes * (1 + i) + size * (j + r)) (at + size * r) refl (omega (arith, mul-add size j r)))

        rows : all whole (record_rest s h i) ≡ zero_bytes (size * left) s at
        rows =
            ap (λ (n : ℕ). all n (record_rest s h i)) parts
            ∙ all_split j left (record_rest s h i)
            ∙ ap (λ t. t && all left (λ r. record_rest s h i (j + r)))
            (all_yes_lem j (record_rest s h i) (λ r m. rw (lt-ltb (whole * i + r) h.lines (ours r m))))
            ∙ all_cong left (λ r. record_rest s h i (j + r)) (λ r. zero_bytes size s (at + size * r)) row
            ∙ records size left at
          where
            parts : whole ≡ j + left
            parts = omega arith
