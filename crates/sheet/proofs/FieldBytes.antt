-- What a field says depends on its own bytes alone: two lists that agree there agree in the field.
use Prim.Native.Nat.{ℕ, ◌+◌, ◌*◌, ◌/◌, ◌%◌, ◌^◌, ◌<◌, ◌≤◌}
use native.Mathlib.Nat.{add_assoc}
use native.Mathlib.Omega.{arith}
use mathlib.Core.Path.{◌≡◌, sym, ap, ◌∙◌}
use mathlib.Core.List.{List}
use lib.Dec.{eqb}
use lib.ListN.{length}
use Rattle.words.proofs.Below.{all_cong, total_cong}
use Rattle.buffers.specs.LittleEndian.{byte_at, number_at}
use Rattle.buffers.proofs.LittleEndian.{number_cong}
use Rattle.sheet.specs.Form.{word_bytes, record_bytes}
use Rattle.sheet.specs.Blocks.{block_bytes, check_offset}
use Rattle.sheet.specs.Checks.{check_of}
use Rattle.sheet.specs.Fields.{header_of, input_difference, record_from}
use Rattle.sheet.specs.Questions.{zero_bytes, marked}
use Rattle.sheet.specs.declared.Form.{Form}
use Rattle.sheet.specs.declared.Record.{Record}
use Rattle.sheet.proofs.FormSizes.{sizes, same_form}

-- a record that states another difference
abbrev pub restated : Record → ℕ → Record
restated r d = record {
  kind = r.kind;
  amount = r.amount;
  first = r.first;
  second = r.second;
  zero = r.zero;
  constant = r.constant;
  difference = d;
}

-- the k bytes at a position are the same
pub record SameAt (i k : ℕ) (s t : List ℕ) : Type 0 where
  pub byte : (q : ℕ) → q < k → byte_at s (i + q) ≡ byte_at t (i + q)

module _ {s t : List ℕ} where
  -- those from another position on, among them
  pub same_part : {i k : ℕ} (a n : ℕ) → SameAt i k s t → a + n ≤ k → SameAt (i + a) n s t
  same_part {i} a n h l = record {
    byte = λ q less. ap (byte_at s) (add_assoc i a q) ∙ h.byte (a + q) (omega arith) ∙ ap (byte_at t) (sym (add_assoc i a q));
  }

  -- those among the first k
  pub same_within : {k : ℕ} (i n : ℕ) → SameAt 0 k s t → i + n ≤ k → SameAt i n s t
  same_within i n h l = record {
    byte = λ q less. ap (byte_at s) (omega arith) ∙ h.byte (i + q) (omega arith) ∙ ap (byte_at t) (omega arith);
  }

  pub number_same : (k i : ℕ) → SameAt i k s t → number_at k s i ≡ number_at k t i
  number_same k i h = number_cong k s t i h.byte

  pub zeros_same : (k i : ℕ) → SameAt i k s t → zero_bytes k s i ≡ zero_bytes k t i
  unfolding zero_bytes
  zeros_same k i h =
      all_cong k (λ j. eqb (byte_at s (i + j)) 0) (λ j. eqb (byte_at t (i + j)) 0) (λ j l. ap (λ (x : ℕ). eqb x 0) (h.byte j l))

  -- a block's check: what stands before it
  pub check_same : (b : ℕ) → SameAt (block_bytes * b) check_offset s t → check_of s b ≡ check_of t b
  unfolding check_of
  check_same b h =
      ap (λ (x : ℕ). (x + b) % 2 ^ 32)
      (total_cong 127 (λ j. number_at 4 s (512 * b + 4 * j)) (λ j. number_at 4 t (512 * b + 4 * j))
      (λ j l. number_same 4 (512 * b + 4 * j) (same_part (4 * j) 4 h (omega arith))))

  -- the header's first eight bytes: the mark, and the numbers n, m and L
  pub header_same : length s ≡ length t → SameAt 0 8 s t → header_of s ≡ header_of t
  header_same e h =
      let form = same_form s t (λ i l. byte i (omega arith)) in
      let blocks : length s / block_bytes ≡ length t / block_bytes = ap (λ (n : ℕ). n / block_bytes) e in
      let width = byte 4 (omega arith) in
      let inputs = byte 5 (omega arith) in
      let lines = number_same 2 6 (same_within 6 2 h (omega arith)) in
      λ i. record { form = form i; blocks = blocks i; width = width i; inputs = inputs i; lines = lines i }
    where
      byte : (i : ℕ) → i < 8 → byte_at s i ≡ byte_at t i
      byte i l = ap (byte_at s) (omega arith) ∙ h.byte i l ∙ ap (byte_at t) (omega arith)

  pub mark_same : SameAt 0 4 s t → marked s ≡ marked t
  unfolding marked
  mark_same h = rw (h.byte 0 (omega arith), h.byte 1 (omega arith), h.byte 2 (omega arith), h.byte 3 (omega arith))

  module _ (f : Form) where
    pub input_same : (j : ℕ) → SameAt (8 + word_bytes f * j) (word_bytes f) s t → input_difference f s j ≡ input_difference f t j
    input_same j h = number_same (word_bytes f) (8 + word_bytes f * j) h

    -- a record's fields but the difference stand before it
    pub fields_same : (i d : ℕ) → SameAt i (8 + word_bytes f) s t → number_at (word_bytes f) s (i + 8 + word_bytes f) ≡ d
        → record_from f s i ≡ restated (record_from f t i) d
    fields_same i d h difference =
        let kind : byte_at s i ≡ byte_at t i = ap (byte_at s) (omega arith) ∙ h.byte 0 (omega arith) ∙ ap (byte_at t) (omega arith) in
        let amount = h.byte 1 (omega arith) in
        let first = number_same 2 (i + 2) (same_part 2 2 h (omega arith)) in
        let second = number_same 2 (i + 4) (same_part 4 2 h (omega arith)) in
        let zero = number_same 2 (i + 6) (same_part 6 2 h (omega arith)) in
        let constant = number_same (word_bytes f) (i + 8) (same_part 8 (word_bytes f) h (omega arith)) in
        λ p. record {
          kind = kind p;
          amount = amount p;
          first = first p;
          second = second p;
          zero = zero p;
          constant = constant p;
          difference = difference p;
        }

    pub record_same : (i : ℕ) → SameAt i (record_bytes f) s t → record_from f s i ≡ record_from f t i
    record_same i h =
        let all = (sizes f).record_holds in
        fields_same i (record_from f t i).difference (record { byte = λ q less. h.byte q (omega arith) })
        (number_same (word_bytes f) (i + 8 + word_bytes f)
        (same_part (word_bytes f) (word_bytes f) (same_part 8 (word_bytes f + word_bytes f) h (omega arith)) (omega arith)))
