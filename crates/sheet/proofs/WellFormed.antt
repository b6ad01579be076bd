-- An accepted sheet's trail is well-formed, within the limits of document 01.
use Prim.Native.Nat.{ℕ, ◌+◌, ◌^◌, ◌<◌, ◌≤◌}
use native.Mathlib.Omega.{arith}
use mathlib.Core.Path.{◌≡◌, sym, ap, ◌∙◌, subst}
use mathlib.Core.Logic.{◌≢◌}
use mathlib.Core.Bool.{Bool, true, false, not, ◌||◌, and-eq-true_iff, true≢false, false≢true}
use mathlib.Core.List.{List}
use borrow.Author.Tests.{eqb-true, ltb-true, eq-eqb, lt-ltb}
use lib.Dec.{eqb, ltb}
use lib.ListN.{get_or}
use Rattle.words.specs.Words.{is_word}
use Rattle.words.proofs.Below.{all_true}
use Rattle.trail.specs.declared.Line.{Line}
use Rattle.trail.specs.Kinds.{kind_of, uses_second, uses_amount, uses_constant, wants_distinct}
use Rattle.trail.specs.Trail.{input_count, line_at}
use Rattle.trail.specs.WellFormed.{WellFormedLine, WellFormed, Sized}
use Rattle.trail.proofs.KindNumbers.{known}
use Rattle.sheet.specs.Asking.{all_yes}
use Rattle.sheet.specs.Fields.{form_of, header_of, input_difference, record_of, line_of, trail_of}
use Rattle.sheet.specs.Questions.{length_questions, check_questions, input_right, header_questions, operands_earlier, operands_differ, amount_right, constant_right, unused_zero, kind_and_operand_questions, self_xor_questions, field_questions, record_questions, line_questions, later_questions, questions}
use Rattle.sheet.specs.Questions.{IsAccepted}
use Rattle.sheet.specs.Facts.{Whole, Limited, SheetRead}
use Rattle.sheet.specs.declared.Header.{Header}
use Rattle.sheet.specs.declared.Record.{Record}
use Rattle.sheet.specs.declared.Mode.{Mode}
use Rattle.sheet.specs.declared.Mode.TheVariants.{Read}
use Rattle.sheet.proofs.FormSizes.{width_below}
use Rattle.sheet.proofs.TrailParts.{trail_inputs, trail_lines, trail_input, trail_line}
use Rattle.sheet.proofs.Asking.{yes_left, yes_right, yes_at}
use Rattle.sheet.proofs.Settled.{apart, whole, headed, limited}
use Rattle.sheet.proofs.Testing.{within_least, within_most}

-- ---- a line

-- a test that is asked only of some kinds
asked : (s t : Bool) → (not s || t) ≡ true → s ≡ true → t ≡ true
asked true t e d = e
asked false t e d = absurd (false≢true d)

unasked : (s t : Bool) → (s || t) ≡ true → s ≡ false → t ≡ true
unasked true t e d = absurd (true≢false d)
unasked false t e d = e

differ_asked : {x y : ℕ} → not (eqb x y) ≡ true → x ≢ y
differ_asked {x} {y} e f = false≢true (rw (eq-eqb x y f) at e)

pub line_right : (mode : Mode) (h : Header) (k : ℕ) (r : Record) → 1 ≤ h.width → all_yes (record_questions mode h k r) ≡ true
    → WellFormedLine h.width (h.inputs + k) (line_of r)
unfolding record_questions kind_and_operand_questions field_questions operands_earlier operands_differ amount_right constant_right unused_zero
line_right mode h k r wide e =
    let kind = apart _ _ _ _ (yes_left (kind_and_operand_questions h k r) _ e) in
    let earlier = apart _ _ _ _ kind.later in
    let differ = apart _ _ _ _ earlier.later in
    let amount = apart _ _ _ _ (yes_right (self_xor_questions mode k r) _ (yes_right (kind_and_operand_questions h k r) _ e)) in
    let constant = apart _ _ _ _ amount.later in
    let difference = apart _ _ _ _ constant.later in
    let unused = apart _ _ _ _ difference.later in
    let uses = kind_of r.kind in
    let operands = (and-eq-true_iff (ltb r.first (h.inputs + k)) (not (uses_second uses) || ltb r.second (h.inputs + k))).0 earlier.here in
    let zero = (and-eq-true_iff (eqb r.zero 0) _).0 unused.here in
    let zero-amount = (and-eq-true_iff (uses_amount uses || eqb r.amount 0) _).0 zero.1 in
    let zero-second = (and-eq-true_iff (uses_second uses || eqb r.second 0) (uses_constant uses || eqb r.constant 0)).0 zero-amount.1 in
    record {
      kind_known = known r.kind (within_least _ _ _ kind.here) (omega (arith, within_most _ _ _ kind.here));
      first_earlier = ltb-true _ _ operands.0;
      second_earlier = λ u. ltb-true _ _ (asked (uses_second uses) (ltb r.second (h.inputs + k)) operands.1 u);
      operands_differ = λ u f. differ_asked (asked (wants_distinct uses) (not (eqb r.first r.second)) differ.here u) f;
      amount_least = λ u. omega (arith, within_least _ _ _ (rw u at amount.here));
      amount_most = λ u. omega (arith, within_most _ _ _ (rw u at amount.here));
      constant_word = λ u. ltb-true _ _ (asked (uses_constant uses) (is_word h.width r.constant) constant.here u);
      difference_word = ltb-true _ _ difference.here;
      second_unused = λ u. eqb-true _ _ (unasked (uses_second uses) (eqb r.second 0) zero-second.0 u);
      amount_unused = λ u. eqb-true _ _ (unasked (uses_amount uses) (eqb r.amount 0) zero-amount.0 u);
      constant_unused = λ u. eqb-true _ _ (unasked (uses_constant uses) (eqb r.constant 0) zero-second.1 u);
    }

-- ---- the trail

module _ (mode : Mode) (s : List ℕ) (e : all_yes (questions mode s) ≡ true) where
  later : all_yes (later_questions mode s (header_of s)) ≡ true
  unfolding questions
  later = yes_right (check_questions mode s (header_of s)) _ (yes_right (length_questions s) _ e)

  pub accepted_whole : Whole s (header_of s)
  unfolding questions
  accepted_whole = whole s (yes_left (length_questions s) _ e)

  pub accepted_limited : Limited (header_of s)
  unfolding later_questions
  accepted_limited = limited s (header_of s) accepted_whole.blocks_least (yes_left _ _ later)

  input_word : (j : ℕ) → j < (header_of s).inputs → input_difference (form_of s) s j < 2 ^ (header_of s).width
  unfolding input_right later_questions
  input_word j l =
      let right = all_true 8 (input_right s (header_of s)) (headed s (header_of s) (yes_left _ _ later)).inputs_right j (omega (arith, accepted_limited.inputs_most)) in
      ltb-true _ _ (rw (lt-ltb j (header_of s).inputs l) at right)

  record_right : (k : ℕ) → k < (header_of s).lines → WellFormedLine (header_of s).width ((header_of s).inputs + k) (line_of (record_of (form_of s) s k))
  unfolding later_questions line_questions
  record_right k l =
      line_right mode (header_of s) k (record_of (form_of s) s k) (omega (arith, accepted_limited.width_least))
      (yes_at (line_questions mode s (header_of s)) (header_of s).lines (yes_left _ _ (yes_right (header_questions s (header_of s)) _ later)) k l)

  input_right_lem : (j : ℕ) → j < (header_of s).inputs → get_or (trail_of s).inputs j 0 < 2 ^ (trail_of s).width
  unfolding trail_of
  input_right_lem j l = rw (trail_input s j l) (input_word j l)

  line_of_lem : (k : ℕ) → k < (header_of s).lines → WellFormedLine (trail_of s).width (input_count (trail_of s) + k) (line_at (trail_of s) k)
  unfolding trail_of
  line_of_lem k l = rw (trail_line s k l, trail_inputs s) (record_right k l)

  pub accepted_well_formed : WellFormed (trail_of s)
  unfolding trail_of
  accepted_well_formed = record {
    width_least = accepted_limited.width_least;
    inputs_least = omega (arith, trail_inputs s, accepted_limited.inputs_least);
    lines_least = omega (arith, trail_lines s, accepted_limited.lines_least);
    inputs_words = λ j l. input_right_lem j (subst (λ (m : ℕ). j < m) (trail_inputs s) l);
    lines_right = λ k l. line_of_lem k (subst (λ (m : ℕ). k < m) (trail_lines s) l);
  }

  pub accepted_sized : Sized 32 (trail_of s)
  unfolding trail_of
  accepted_sized = record {
    width_most = omega (arith, accepted_limited.width_most, width_below (form_of s));
    inputs_most = omega (arith, trail_inputs s, accepted_limited.inputs_most);
    lines_most = omega (arith, trail_lines s, accepted_limited.lines_most);
  }

-- ---- the sheet that reading accepted, by the parts that it gave

pub has_read : (s : List ℕ) (h : Header) → IsAccepted s → header_of s ≡ h → SheetRead s h
unfolding trail_of
has_read s h accepted parts = record {
  accepted = accepted;
  parts = parts;
  blocks = subst (Whole s) parts (accepted_whole Read s accepted);
  limits = subst Limited parts (accepted_limited Read s accepted);
  well_formed = accepted_well_formed Read s accepted;
  width = ap (λ (p : Header). p.width) parts;
  width_most = omega (arith, (subst Limited parts (accepted_limited Read s accepted)).width_most, width_below h.form);
  inputs = trail_inputs s ∙ ap (λ (p : Header). p.inputs) parts;
  lines = trail_lines s ∙ ap (λ (p : Header). p.lines) parts;
}

pub line_at_right : (s : List ℕ) (h : Header) → SheetRead s h → (k : ℕ) → k < h.lines → {l : Line} → l ≡ line_at (trail_of s) k
    → WellFormedLine h.width (h.inputs + k) l
line_at_right s h read k less e =
    subst (WellFormedLine h.width (h.inputs + k)) (sym e)
    (subst (λ (n : ℕ). WellFormedLine n (h.inputs + k) (line_at (trail_of s) k)) read.width
    (subst (λ (m : ℕ). WellFormedLine (trail_of s).width (m + k) (line_at (trail_of s) k)) read.inputs
    (read.well_formed.lines_right k (omega arith))))
