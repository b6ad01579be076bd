-- Document 02, W-205: what sealing refuses besides what reading refuses.
use Prim.Native.Nat.{ℕ, ◌<◌}
use native.Mathlib.Omega.{arith}
use mathlib.Core.Path.{◌≡◌, sym, ap, ◌∙◌}
use mathlib.Core.Logic.{◌↔◌}
use mathlib.Core.Bool.{true, false, and-false, not-eq-not, true≢false}
use mathlib.Core.List.{List, [], ◌∷◌, ◌++◌, append_assoc, IsPrefix, prefix-append}
use Rattle.words.specs.Below.{concat}
use Rattle.sheet.specs.Asking.{Question, ask, all_yes, verdict}
use Rattle.sheet.specs.Asking.Verdict.{refused}
use Rattle.sheet.specs.Fields.{form_of, header_of, record_of}
use Rattle.sheet.specs.Questions.{length_questions, check_questions, header_questions, xors_itself, kind_and_operand_questions, self_xor_questions, field_questions, record_questions, line_questions, later_questions, questions}
use Rattle.sheet.specs.SelfXor.{SelfXorAt}
use Rattle.sheet.specs.declared.Record.{Record}
use Rattle.sheet.specs.declared.Mode.{Mode}
use Rattle.sheet.specs.declared.Mode.TheVariants.{Read, Seal}
use Rattle.sheet.proofs.Asking.{yes_append, yes_left, yes_right, yes_both, yes_each, yes_at, no_verdict, go_on, stop, refuses, prefix_longer, prefix_after, prefix_at}
use Rattle.sheet.proofs.LineAsking.{sealing_yes, finds, found}
use Rattle.sealed_sheets.specs.SelfXor.{asked_before, SealingRefusesSelfXor, SealingRefusesOldSheets, SealsExactly}
use Rattle.sealed_sheets.proofs.WrittenChecks.{sealed_no}

module _ (s : List ℕ) where
  abbrev line : ℕ → Record
  line k = record_of (form_of s) s k

  abbrev count : ℕ
  count = (header_of s).lines

  abbrev header : List Question
  header = header_questions s (header_of s)

  abbrev asks : Mode → ℕ → List Question
  asks mode = line_questions mode s (header_of s)

  -- ---- such a line is refused

  module _ (k : ℕ) (at : SelfXorAt s k) where
    abbrev no : List Question
    no = ask false 23 k ∷ []

    abbrev of_line : List Question
    of_line = kind_and_operand_questions (header_of s) k (line k) ++ no

    abbrev of_lines : List Question
    of_lines = concat k (asks Seal) ++ of_line

    line_begins : IsPrefix of_line (asks Seal k)
    unfolding line_questions record_questions self_xor_questions
    line_begins =
        rw (finds s k at)
        (prefix_after (kind_and_operand_questions (header_of s) k (line k)) no (prefix-append no (field_questions (header_of s) k (line k))))

    grouped : (a b c d : List Question) → (a ++ (b ++ (c ++ d))) ++ no ≡ a ++ (b ++ (c ++ (d ++ no)))
    grouped a b c d =
        append_assoc a (b ++ (c ++ d)) no
        ∙ ap (λ l. a ++ l) (append_assoc b (c ++ d) no ∙ ap (λ l. b ++ l) (append_assoc c d no))

    sealing_begins : IsPrefix (asked_before s k ++ no) (questions Seal s)
    unfolding questions check_questions later_questions
    sealing_begins =
        rw grouped
        (prefix_after (length_questions s) (header ++ of_lines)
        (prefix_after header of_lines
        (prefix_longer of_lines (prefix_at (asks Seal) count k of_line at.below line_begins) (prefix-append (concat count (asks Seal)) _))))

    -- what refuses up to 23 of line k refuses the sheet
    refused_before : {n p : ℕ} → verdict (asked_before s k ++ no) (header_of s) ≡ refused n p → verdict (questions Seal s) (header_of s) ≡ refused n p
    refused_before e =
        ap (λ qs. verdict qs (header_of s)) (sym sealing_begins.1) ∙ stop (asked_before s k ++ no) sealing_begins.0 (header_of s) (header_of s) e

    a_no : (xs : List Question) → all_yes (xs ++ no) ≡ false
    unfolding all_yes
    a_no xs = yes_append xs no ∙ and-false (all_yes xs)

pub sealing_refuses_self_xor : SealingRefusesSelfXor
sealing_refuses_self_xor s k at =
    let r = refuses (asked_before s k ++ no s k at) (header_of s) (a_no s k at (asked_before s k)) in
    let refused_so = refused_before s k at r.says in
    record {
      number = r.number;
      place = r.place;
      answer = refused_so;
      first = r.says;
      bytes = sealed_no s (no_verdict (questions Seal s) (header_of s) refused_so);
    }

-- ---- and no other that was accepted before

module _ (s : List ℕ) where
  line_yes : (k : ℕ) → (all_yes (asks s Seal k) ≡ true) ↔ ((all_yes (asks s Read k) ≡ true) × (xors_itself (line s k) ≡ false))
  unfolding line_questions
  line_yes k = sealing_yes (header_of s) k (line s k)

  none_found : (k : ℕ) → k < count s → (SelfXorAt s k → ⊥) → xors_itself (line s k) ≡ false
  none_found k l none = not-eq-not.0 (λ e. none (found s k l e))

pub seals_exactly : SealsExactly
unfolding questions check_questions later_questions
seals_exactly s = (
  λ e.
      let later = yes_right (length_questions s) _ e in
      let lines = yes_right (header s) _ later in
      let each = yes_at (asks s Seal) (count s) (yes_left (concat (count s) (asks s Seal)) _ lines) in (
        yes_left (length_questions s) _ e,
        yes_both (header s) _ (yes_left (header s) _ later)
            (yes_both (concat (count s) (asks s Read)) _ (yes_each (asks s Read) (count s) (λ k l. ((line_yes s k).0 (each k l)).0))
            (yes_right (concat (count s) (asks s Seal)) _ lines)),
        λ k at. true≢false (sym (finds s k at) ∙ ((line_yes s k).0 (each k at.below)).1),
      ),
  λ e.
      let lines = yes_right (header s) _ e.1 in
      let each = yes_at (asks s Read) (count s) (yes_left (concat (count s) (asks s Read)) _ lines) in
      yes_both (length_questions s) _ e.0
      (yes_both (header s) _ (yes_left (header s) _ e.1)
      (yes_both (concat (count s) (asks s Seal)) _
      (yes_each (asks s Seal) (count s) (λ k l. (line_yes s k).1 (each k l, none_found s k l (e.2 k))))
      (yes_right (concat (count s) (asks s Read)) _ lines))),
)

-- ---- of a sheet that reading accepts, nothing but 23 is refused

pub sealing_refuses_old_sheets : SealingRefusesOldSheets
unfolding questions later_questions line_questions record_questions verdict
sealing_refuses_old_sheets s k accepted at none =
    let later = yes_right (check_questions Read s (header_of s)) _ (yes_right (length_questions s) _ accepted) in
    let lines = yes_left (concat (count s) (asks s Read)) _ (yes_right (header s) _ later) in
    let each = yes_at (asks s Read) (count s) lines in
    let before =
    yes_both (length_questions s) _ (yes_left (length_questions s) _ accepted)
    (yes_both (header s) _ (yes_left (header s) _ later)
    (yes_both (concat k (asks s Seal)) _
    (yes_each (asks s Seal) k
    (λ j l. let less : j < count s = omega (arith, at.below) in (line_yes s j).1 (each j less, none_found s j less (none j l))))
    (yes_left (kind_and_operand_questions (header_of s) k (line s k)) _ (each k at.below)))) in
    refused_before s k at (go_on (asked_before s k) (no s k at) (header_of s) before)
