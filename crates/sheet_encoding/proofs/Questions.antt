-- Every question of reading but the checks' is answered yes for the bytes of a trail.
use Prim.Native.Nat.{ℕ, zero, ◌+◌, ◌*◌, ◌-◌, ◌/◌, ◌%◌, ◌^◌, ◌<◌, ◌≤◌}
use native.Mathlib.Decide.{dec_lt}
use native.Mathlib.Omega.{arith}
use mathlib.Core.Path.{◌≡◌, refl, sym, ap, subst, ◌∙◌}
use mathlib.Core.Bool.{Bool, true, false, not, ◌&&◌, ◌||◌, cond, and-eq-true_iff}
use mathlib.Core.List.{List}
use borrow.Author.Tests.{eq-eqb, ne_eqb, lt-ltb, le-ltb, le-leb, ltb-false}
use lib.Dec.{eqb, ltb}
use lib.ListN.{length, get_or, replicate, get_or-replicate, length-replicate, get_or-eq_default}
use Rattle.words.specs.Words.{is_word}
use Rattle.words.specs.Below.{all, concat}
use Rattle.words.proofs.Below.{all_yes_lem}
use Rattle.buffers.specs.LittleEndian.{byte_at}
use Rattle.buffers.proofs.Standing.{Stands, stands_at_lem, stands_left, stands_right}
use Rattle.trail.specs.declared.Line.{Line}
use Rattle.trail.specs.Kinds.{kind_of, uses_second, uses_amount, uses_constant, wants_distinct}
use Rattle.trail.specs.Trail.{Trail, input_count, line_count, no_line, line_at}
use Rattle.trail.specs.WellFormed.{WellFormedLine, WellFormed, Sized}
use Rattle.trail.proofs.KindNumbers.{known_within}
use Rattle.sheet.specs.Form.{mark_of, width_most, record_bytes, records_in_block, tail_bytes, inputs_end, blocks_most}
use Rattle.sheet.specs.Blocks.{block_bytes, check_offset}
use Rattle.sheet.specs.Asking.{Question, all_yes}
use Rattle.sheet.specs.Asking.Verdict.{accepted}
use Rattle.sheet.specs.Fields.{header_of}
use Rattle.sheet.specs.Questions.{within, zero_bytes, length_questions, line_blocks, lines_right, input_right, header_questions, operands_earlier, operands_differ, amount_right, constant_right, unused_zero, kind_and_operand_questions, self_xor_questions, field_questions, record_questions, line_questions, record_rest, block_rest, rest_question, later_questions}
use Rattle.sheet.specs.declared.Form.{Form}
use Rattle.sheet.specs.declared.Header.{Header}
use Rattle.sheet.specs.declared.Record.{Record}
use Rattle.sheet.specs.declared.Mode.TheVariants.{Read}
use Rattle.sheet.proofs.Asking.{yes_both, yes_one, yes_each, yes_verdict, Comes, comes}
use Rattle.sheet.proofs.Asking.Comes.{done, yes as right}
use Rattle.sheet.proofs.FormSizes.{sizes, blocks_enough, blocks_fit}
use Rattle.sheet_encoding.specs.Encoding.{record_bytes_of, header_block, line_block, encode}
use Rattle.sheet_encoding.proofs.FormLaws.{mark_there, no_line_zero}
use Rattle.sheet_encoding.proofs.Encoding.{as_record, encode_length, header_stands, line_block_stands, piece_stands, block_there, records, records_length, header_read, line_read, encode_form}

-- ---- tests

both : {a b : Bool} → a ≡ true → b ≡ true → (a && b) ≡ true
both {a} {b} e d = (and-eq-true_iff a b).1 (e, d)

-- a test that is asked only of some
if_asked : (a b : Bool) → (a ≡ true → b ≡ true) → (not a || b) ≡ true
if_asked true b h = h refl
if_asked false b h = refl

unless : (a b : Bool) → (a ≡ false → b ≡ true) → (a || b) ≡ true
unless true b h = refl
unless false b h = h refl

inside : {a b x : ℕ} → a ≤ x → x ≤ b → within a b x ≡ true
unfolding within
inside {a} {b} {x} l m = both (le-leb a x l) (le-leb x b m)

-- zeros that stand are zero bytes
zeros : (n k at : ℕ) (s : List ℕ) → k ≤ n → Stands at (replicate n 0) s → zero_bytes k s at ≡ true
unfolding zero_bytes
zeros n k at s l st =
    all_yes_lem k (λ j. eqb (byte_at s (at + j)) 0)
    (λ j less. eq-eqb (byte_at s (at + j)) 0 (st.same j (omega (arith, length-replicate {A = ℕ} n 0)) ∙ get_or-replicate n j 0 0 (omega arith)))

-- questions that are all answered yes
all_asked : {qs : List Question} → Comes {A = ℕ} qs 0 (accepted 0) → all_yes qs ≡ true
all_asked {qs} c = (yes_verdict qs 0 0 (sym (comes c))).0

-- ---- a line's seven

pub line_asked : (h : Header) (k : ℕ) (l : Line) → 1 ≤ h.width → WellFormedLine h.width (h.inputs + k) l
    → all_yes (record_questions Read h k (as_record l)) ≡ true
unfolding kind_and_operand_questions self_xor_questions field_questions record_questions operands_earlier operands_differ amount_right constant_right unused_zero
line_asked h k l wide good =
    let q = kind_of l.kind in
    let known = known_within l.kind good.kind_known in
    let j = h.inputs + k in
    all_asked
    (right (inside known.0 known.1)
    (right (both (lt-ltb l.first j good.first_earlier) (if_asked (uses_second q) (ltb l.second j) (λ e. lt-ltb l.second j (good.second_earlier e))))
    (right (if_asked (wants_distinct q) (not (eqb l.first l.second)) (λ e. ap not (ne_eqb l.first l.second (good.operands_differ e))))
    (right (if_asked (uses_amount q) (within 1 (h.width - 1) l.amount) (λ e. inside (good.amount_least e) (omega (arith, good.amount_most e))))
    (right (if_asked (uses_constant q) (is_word h.width l.constant) (λ e. lt-ltb l.constant (2 ^ h.width) (good.constant_word e)))
    (right (lt-ltb l.difference (2 ^ h.width) good.difference_word)
    (right
    (both (eq-eqb 0 0 refl)
    (both (unless (uses_amount q) (eqb l.amount 0) (λ e. eq-eqb l.amount 0 (good.amount_unused e)))
    (both (unless (uses_second q) (eqb l.second 0) (λ e. eq-eqb l.second 0 (good.second_unused e)))
    (unless (uses_constant q) (eqb l.constant 0) (λ e. eq-eqb l.constant 0 (good.constant_unused e))))))
    done)))))))

-- ---- the bytes of a trail

module _ (f : Form) {t : Trail} (good : WellFormed t) (sized : Sized (width_most f) t) where
  abbrev s : List ℕ
  s = encode f t

  -- its parts
  abbrev parts : Header
  parts = record { form = f; blocks = 1 + line_blocks f (line_count t); width = t.width; inputs = input_count t; lines = line_count t }

  some_block : 1 ≤ line_blocks f (line_count t)
  some_block = omega (arith, block_there f 0 (line_count t) good.lines_least)

  few_blocks : 1 + line_blocks f (line_count t) ≤ blocks_most f
  few_blocks = blocks_enough f (line_count t) sized.lines_most

  long : length s ≡ block_bytes * (1 + line_blocks f (line_count t))
  long = encode_length f t ∙ omega arith

  pub encode_parts : header_of s ≡ parts
  encode_parts =
      let h = header_read f good sized in
      let form = encode_form f good sized in
      let blocks : length s / block_bytes ≡ 1 + line_blocks f (line_count t) = omega (arith, long) in
      λ i. record { form = form i; blocks = blocks i; width = h.width i; inputs = h.inputs i; lines = h.lines i }

  pub length_asked : all_yes (length_questions s) ≡ true
  unfolding length_questions
  length_asked =
      yes_one _ 1 0
      (both (eq-eqb (length s % block_bytes) 0 (omega (arith, long)))
      (inside (omega (arith, long, some_block)) (omega (arith, long, few_blocks, blocks_fit f))))

  input_asked : (j : ℕ) → j < 8 → input_right s parts j ≡ true
  unfolding input_right
  input_asked j less =
      ap (λ (d : ℕ). cond (ltb j (input_count t)) (is_word t.width d) (eqb d 0)) ((header_read f good sized).input j less)
      ∙ at (dec_lt j (input_count t))
    where
      at : Dec (j < input_count t) → cond (ltb j (input_count t)) (is_word t.width (get_or t.inputs j 0)) (eqb (get_or t.inputs j 0) 0) ≡ true
      at (yes there) = rw (lt-ltb j (input_count t) there) (lt-ltb (get_or t.inputs j 0) (2 ^ t.width) (good.inputs_words j there))
      at (no past) = rw (le-ltb j (input_count t) (omega arith)) (eq-eqb (get_or t.inputs j 0) 0 (get_or-eq_default t.inputs 0 {n = j} (omega arith)))

  header_asked : all_yes (header_questions s parts) ≡ true
  unfolding header_questions lines_right header_block
  header_asked =
      let h = header_read f good sized in
      all_asked
      (right (mark_there f s (stands_left (mark_of f) _ (header_stands f t)))
      (right (inside good.width_least sized.width_most)
      (right (inside good.inputs_least sized.inputs_most)
      (right (both (inside good.lines_least sized.lines_most) (eq-eqb (1 + line_blocks f (line_count t) - 1) (line_blocks f (line_count t)) (omega arith)))
      (right (all_yes_lem 8 (input_right s parts) input_asked)
      (right (zeros (block_bytes - inputs_end f) (check_offset - inputs_end f) (inputs_end f) s (omega arith) h.rest)
      done))))))

  lines_asked : all_yes (concat (line_count t) (line_questions Read s parts)) ≡ true
  unfolding line_questions
  lines_asked =
      yes_each (line_questions Read s parts) (line_count t)
      (λ k l.
      ap (λ (r : Record). all_yes (record_questions Read parts k r)) (line_read f good sized k l)
      ∙ line_asked parts k (line_at t k) (omega (arith, good.width_least)) (good.lines_right k l))

  record_rest_lem : (i j : ℕ) → i < line_blocks f (line_count t) → j < records_in_block f → record_rest s parts i j ≡ true
  unfolding record_rest line_at
  record_rest_lem i j l g =
      unless (ltb (records_in_block f * i + j) (line_count t)) _
      (λ e.
      let past : line_count t ≤ records_in_block f * i + j = ltb-false _ _ e in
      let there = subst (λ (line : Line). Stands (512 + 512 * i + record_bytes f * j) (record_bytes_of f line) s) (get_or-eq_default t.lines no_line past) (piece_stands f t i j l g) in
      zeros (record_bytes f) (record_bytes f) (block_bytes * (1 + i) + record_bytes f * j) s (omega arith)
      (stands_at_lem (omega arith) (subst (λ (bytes : List ℕ). Stands (512 + 512 * i + record_bytes f * j) bytes s) (no_line_zero f) there)))

  tail_zero : (i : ℕ) → i < line_blocks f (line_count t) → zero_bytes (tail_bytes f) s (block_bytes * (1 + i) + record_bytes f * records_in_block f) ≡ true
  unfolding line_block records
  tail_zero i l =
      zeros (block_bytes - record_bytes f * records_in_block f) (tail_bytes f) _ s (omega (arith, (sizes f).filled))
      (stands_at_lem (omega (arith, records_length f t i)) (stands_right (concat (records_in_block f) (records f t i)) _ (line_block_stands f t i l)))

  rest_asked : all_yes (concat (1 + line_blocks f (line_count t) - 1) (rest_question s parts)) ≡ true
  unfolding rest_question block_rest
  rest_asked =
      yes_each (rest_question s parts) (1 + line_blocks f (line_count t) - 1)
      (λ i l.
      yes_one _ 16 (1 + i)
      (both (all_yes_lem (records_in_block f) (record_rest s parts i) (λ j g. record_rest_lem i j (omega arith) g)) (tail_zero i (omega arith))))

  pub later_asked : all_yes (later_questions Read s (header_of s)) ≡ true
  unfolding later_questions
  later_asked =
      ap (λ (h : Header). all_yes (later_questions Read s h)) encode_parts
      ∙ yes_both (header_questions s parts) _ header_asked (yes_both (concat (line_count t) (line_questions Read s parts)) _ lines_asked rest_asked)
