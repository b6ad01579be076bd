-- The facts that questions settle, for the code after them and for the theorems about accepted sheets.
use Prim.Native.Nat.{ℕ, ◌-◌, ◌%◌, ◌≤◌}
use native.Mathlib.Omega.{arith}
use mathlib.Core.Path.{◌≡◌}
use mathlib.Core.Bool.{Bool, true, and-eq-true_iff}
use mathlib.Core.List.{List, ◌∷◌}
use borrow.Author.Tests.{eqb-true}
use lib.Dec.{eqb}
use lib.ListN.{length}
use Rattle.words.specs.Below.{all}
use Rattle.sheet.specs.Asking.{Question, ask, all_yes}
use Rattle.sheet.specs.Form.{width_most}
use Rattle.sheet.specs.Blocks.{block_bytes, length_least, length_most}
use Rattle.sheet.specs.Fields.{header_of}
use Rattle.sheet.specs.Questions.{within, length_questions, line_blocks, lines_right, input_right, header_questions}
use Rattle.sheet.specs.Facts.{Whole, Limited}
use Rattle.sheet.specs.declared.Header.{Header}
use Rattle.sheet.proofs.FormSizes.{blocks_enough}
use Rattle.sheet.proofs.Asking.{yes_first, yes_rest}
use Rattle.sheet.proofs.Testing.{within_least, within_most}

-- a list of questions with yes to all, taken apart
pub record Yes (t : Bool) (qs : List Question) : Type 0 where
  pub here : t ≡ true
  pub later : all_yes qs ≡ true

pub apart : (t : Bool) (n p : ℕ) (qs : List Question) → all_yes (ask t n p ∷ qs) ≡ true → Yes t qs
apart t n p qs e = record { here = yes_first t n p qs e; later = yes_rest t n p qs e }

pub whole : (s : List ℕ) → all_yes (length_questions s) ≡ true → Whole s (header_of s)
unfolding length_questions
whole s e =
    let right = (and-eq-true_iff (eqb (length s % block_bytes) 0) (within length_least length_most (length s))).0 (apart _ _ _ _ e).here in
    let multiple : length s % block_bytes ≡ 0 = eqb-true _ _ right.0 in
    let least = within_least length_least length_most (length s) right.1 in
    let most = within_most length_least length_most (length s) right.1 in
    record { whole = omega arith; blocks_least = omega arith; blocks_most = omega arith }

-- what questions 3 to 8 say
pub record Headed (s : List ℕ) (h : Header) : Type 0 where
  pub width : within 2 (width_most h.form) h.width ≡ true
  pub inputs : within 1 8 h.inputs ≡ true
  pub lines : lines_right h ≡ true
  pub inputs_right : all 8 (input_right s h) ≡ true

pub headed : (s : List ℕ) (h : Header) → all_yes (header_questions s h) ≡ true → Headed s h
unfolding header_questions
headed s h e =
    let n = apart _ _ _ _ (apart _ _ _ _ e).later in
    let m = apart _ _ _ _ n.later in
    let l = apart _ _ _ _ m.later in
    record { width = n.here; inputs = m.here; lines = l.here; inputs_right = (apart _ _ _ _ l.later).here }

pub limited : (s : List ℕ) (h : Header) → 2 ≤ h.blocks → all_yes (header_questions s h) ≡ true → Limited h
unfolding lines_right
limited s h b e =
    let d = headed s h e in
    let l = (and-eq-true_iff (within 1 248 h.lines) (eqb (h.blocks - 1) (line_blocks h.form h.lines))).0 d.lines in
    let blocks : h.blocks - 1 ≡ line_blocks h.form h.lines = eqb-true _ _ l.1 in
    let lines_most : h.lines ≤ 248 = within_most 1 248 _ l.0 in
    record {
      width_least = within_least 2 _ _ d.width;
      width_most = within_most 2 _ _ d.width;
      inputs_least = within_least 1 8 _ d.inputs;
      inputs_most = within_most 1 8 _ d.inputs;
      lines_least = within_least 1 248 _ l.0;
      lines_most = lines_most;
      enough = omega arith;
      blocks_most = omega (arith, blocks_enough h.form h.lines lines_most);
    }
