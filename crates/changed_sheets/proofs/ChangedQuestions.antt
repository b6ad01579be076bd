-- A changed sheet answers every question with yes: those of other lines and blocks as before, those of line k since only 14 asks for
-- the difference, and 2 of its block since the check is renewed.
use Prim.Native.Nat.{ℕ, ◌+◌, ◌*◌, ◌-◌, ◌/◌, ◌%◌, ◌^◌, ◌<◌, ◌≤◌}
use native.Mathlib.Decide.{dec_lt, ℕ_discrete}
use native.Mathlib.Omega.{arith}
use mathlib.Core.Path.{◌≡◌, sym, ap, subst, ◌∙◌}
use mathlib.Core.Logic.{◌⊎◌, inl, inr, ◌≢◌}
use mathlib.Core.Bool.{Bool, true}
use mathlib.Core.List.{List, [], ◌∷◌}
use borrow.Author.Tests.{eq-eqb, lt-ltb}
use Rattle.words.specs.Words.{is_word}
use Rattle.words.specs.Below.{concat}
use Rattle.buffers.specs.LittleEndian.{number_at}
use Rattle.sheet.specs.Asking.{ask, all_yes}
use Rattle.sheet.specs.Blocks.{block_bytes, check_offset}
use Rattle.sheet.specs.Form.{word_bytes, record_bytes, records_in_block, tail_bytes}
use Rattle.sheet.specs.Fields.{header_of, record_position, record_of}
use Rattle.sheet.specs.Questions.{length_questions, check_question, check_questions, header_questions, operands_earlier, operands_differ, amount_right, constant_right, unused_zero, kind_and_operand_questions, self_xor_questions, field_questions, record_questions, line_questions, rest_question, later_questions, questions}
use Rattle.sheet.specs.Questions.{IsAccepted}
use Rattle.sheet.specs.Checks.{check_of, check_position}
use Rattle.sheet.specs.declared.Header.{Header}
use Rattle.sheet.specs.declared.Record.{Record}
use Rattle.sheet.specs.declared.Mode.TheVariants.{Read}
use Rattle.sheet.proofs.FormSizes.{sizes, record_ends, line_ends, line_before_rest, record_at, records_apart}
use Rattle.sheet.proofs.FieldBytes.{restated, SameAt, same_within, header_same, fields_same, record_same}
use Rattle.sheet.proofs.QuestionBytes.{header_questions_same, rest_same}
use Rattle.sheet.proofs.Asking.{yes_left, yes_right, yes_both, yes_one, yes_each, yes_at}
use Rattle.sheet.proofs.Settled.{apart}
use Rattle.sheet.proofs.CheckedBlocks.{accepted_checked}
use Rattle.changed_sheets.specs.ChangedSheet.{difference_position, block_of_line, changed_sheet}
use Rattle.changed_sheets.proofs.ChangedBytes.{changed_length, same_stretch, before_check, other_block, field_inside, stated_number, renewed_check, other_check}

-- a line that states another word passes as before
restated_yes : (h : Header) (i d : ℕ) (r : Record) → is_word h.width d ≡ true → all_yes (record_questions Read h i r) ≡ true
    → all_yes (record_questions Read h i (restated r d)) ≡ true
unfolding record_questions kind_and_operand_questions self_xor_questions field_questions operands_earlier operands_differ amount_right constant_right unused_zero
restated_yes h i d r word e =
    let fields = yes_right (kind_and_operand_questions h i r) _ e in
    let amount = apart _ _ _ _ fields in
    let constant = apart _ _ _ _ amount.later in
    let difference = apart _ _ _ _ constant.later in
    yes_both (kind_and_operand_questions h i (restated r d)) _ (yes_left (kind_and_operand_questions h i r) _ e)
    (yes_both (ask (amount_right r h.width) 12 i ∷ []) _ (yes_one _ 12 i amount.here)
    (yes_both (ask (constant_right r h.width) 13 i ∷ []) _ (yes_one _ 13 i constant.here)
    (yes_both (ask (is_word h.width d) 14 i ∷ []) _ (yes_one _ 14 i word) difference.later)))

module _ (s : List ℕ) (k d : ℕ) (accepts : IsAccepted s) (known : k < (header_of s).lines) where
  abbrev t : List ℕ
  t = changed_sheet s k d

  abbrev h : Header
  h = header_of s

  -- ---- the header

  pub same_start : SameAt 0 check_offset t s
  same_start =
      same_stretch s k d accepts known 0 check_offset
      (other_block s k d accepts known 0 0 check_offset (λ e. omega arith) (omega arith) (omega arith))
      (before_check s k d accepts known 0 0 check_offset (omega arith) (omega arith))

  pub same_header : header_of t ≡ header_of s
  same_header = header_same (changed_length s k d accepts known) (same_within 0 8 same_start (omega arith))

  same_length_questions : length_questions t ≡ length_questions s
  unfolding length_questions
  same_length_questions = rw (changed_length s k d accepts known)

  -- ---- the lines

  pub other_record : (i : ℕ) → i ≢ k → record_of h.form t i ≡ record_of h.form s i
  unfolding record_of record_position
  other_record i other =
      record_same h.form (record_position h.form i)
      (same_stretch s k d accepts known (record_position h.form i) (record_bytes h.form) (at (dec_lt i k))
      (before_check s k d accepts known (1 + i / records_in_block h.form) (record_position h.form i) (record_bytes h.form) (omega arith) (omega (arith, line_ends h.form i))))
    where
      at : Dec (i < k) → (record_position h.form i + record_bytes h.form ≤ difference_position h.form k) ⊎ (difference_position h.form k + word_bytes h.form ≤ record_position h.form i)
      at (yes l) = inl (omega (arith, records_apart h.form i k l))
      at (no l) = inr (omega (arith, records_apart h.form k i (omega arith), (sizes h.form).record_holds))

  module _ (word : d < 2 ^ (header_of s).width) where
    pub stated_record : record_of h.form t k ≡ restated (record_of h.form s k) d
    unfolding record_of record_position
    stated_record =
        fields_same h.form (record_position h.form k) d
        (same_stretch s k d accepts known (record_position h.form k) (8 + word_bytes h.form) (inl (omega arith))
        (before_check s k d accepts known (1 + k / records_in_block h.form) (record_position h.form k) (8 + word_bytes h.form) (omega arith) (omega (arith, line_ends h.form k, (sizes h.form).record_holds))))
        (stated_number s k d accepts known word)

    later : all_yes (later_questions Read s h) ≡ true
    unfolding questions
    later = yes_right (check_questions Read s h) _ (yes_right (length_questions s) _ accepts)

    line_yes : (i : ℕ) → i < h.lines → all_yes (line_questions Read t h i) ≡ true
    unfolding later_questions line_questions
    line_yes i l = at (ℕ_discrete i k)
      where
        before : all_yes (record_questions Read h i (record_of h.form s i)) ≡ true
        before = yes_at (line_questions Read s h) h.lines (yes_left _ _ (yes_right (header_questions s h) _ later)) i l

        at : Dec (i ≡ k) → all_yes (record_questions Read h i (record_of h.form t i)) ≡ true
        at (yes e) =
            ap (λ (r : Record). all_yes (record_questions Read h i r)) (subst (λ (j : ℕ). record_of h.form t j ≡ restated (record_of h.form s j) d) (sym e) stated_record)
            ∙ restated_yes h i d (record_of h.form s i) (lt-ltb d (2 ^ h.width) word) before
        at (no other) = ap (λ (r : Record). all_yes (record_questions Read h i r)) (other_record i other) ∙ before

    -- ---- what is no line's

    rest_yes : (i : ℕ) → i < h.blocks - 1 → all_yes (rest_question t h i) ≡ true
    unfolding later_questions rest_question record_position
    rest_yes i l =
        ap (λ (a : Bool). all_yes (ask a 16 (1 + i) ∷ [])) (rest_same h i past behind)
        ∙ yes_at (rest_question s h) (h.blocks - 1) (yes_right (concat h.lines (line_questions Read s h)) _ (yes_right (header_questions s h) _ later)) i l
      where
        past : (j : ℕ) → j < records_in_block h.form → h.lines ≤ records_in_block h.form * i + j
            → SameAt (block_bytes * (1 + i) + record_bytes h.form * j) (record_bytes h.form) t s
        past j less far =
            same_stretch s k d accepts known _ (record_bytes h.form)
            (inr (omega (arith, records_apart h.form k (records_in_block h.form * i + j) (omega arith), record_at h.form i j less, (sizes h.form).record_holds)))
            (before_check s k d accepts known (1 + i) _ (record_bytes h.form) (omega arith) (omega (arith, record_ends h.form j less)))

        from : ℕ
        from = block_bytes * (1 + i) + record_bytes h.form * records_in_block h.form

        ends : Dec (1 + i ≡ block_of_line h.form k)
            → (from + tail_bytes h.form ≤ difference_position h.form k) ⊎ (difference_position h.form k + word_bytes h.form ≤ from)
        ends (yes e) = inr (omega (arith, line_before_rest h.form k, (sizes h.form).record_holds))
        ends (no other) = other_block s k d accepts known (1 + i) from (tail_bytes h.form) other (omega arith) (omega (arith, (sizes h.form).filled))

        behind : SameAt from (tail_bytes h.form) t s
        behind =
            same_stretch s k d accepts known from (tail_bytes h.form) (ends (ℕ_discrete (1 + i) (block_of_line h.form k)))
            (before_check s k d accepts known (1 + i) from (tail_bytes h.form) (omega arith) (omega (arith, (sizes h.form).filled)))

    -- ---- the checks

    check_yes : (c : ℕ) → c < (header_of t).blocks → all_yes (check_question t c) ≡ true
    unfolding check_question
    check_yes c l = yes_one _ 2 c (eq-eqb _ _ (at (ℕ_discrete c (block_of_line h.form k))))
      where
        at : Dec (c ≡ block_of_line h.form k) → number_at 4 t (check_position c) ≡ check_of t c
        at (yes e) =
            subst (λ (z : ℕ). number_at 4 t (check_position z) ≡ check_of t z) (sym e)
            (renewed_check s k d accepts known)
        at (no other) =
            other_check s k d accepts known c other
            (accepted_checked s accepts c (subst (λ (p : Header). c < p.blocks) same_header l))

    later_yes : all_yes (later_questions Read t h) ≡ true
    unfolding later_questions
    later_yes =
        yes_both (header_questions t h) _ (ap all_yes (header_questions_same same_start h) ∙ yes_left (header_questions s h) _ later)
        (yes_both (concat h.lines (line_questions Read t h)) _ (yes_each (line_questions Read t h) h.lines line_yes)
        (yes_each (rest_question t h) (h.blocks - 1) rest_yes))

    pub changed_accepted : IsAccepted t
    unfolding questions check_questions
    changed_accepted =
        yes_both (length_questions t) _ (ap all_yes same_length_questions ∙ yes_left (length_questions s) _ accepts)
        (yes_both (concat (header_of t).blocks (check_question t)) _ (yes_each (check_question t) (header_of t).blocks check_yes)
        (ap (λ (p : Header). all_yes (later_questions Read t p)) same_header ∙ later_yes))
