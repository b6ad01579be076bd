-- What the call answers and leaves, from what reading, the comparison and the change's own stage answered.
use Prim.Native.Nat.{ℕ, ◌<◌}
use mathlib.Core.Path.{◌≡◌, refl, sym, ap, subst, ◌∙◌}
use mathlib.Core.Bool.{Bool, true, false, ◌&&◌, cond}
use mathlib.Core.List.{List, [], ◌++◌, append-nil}
use lib.ListN.{length}
use Rattle.sheet.specs.Asking.{Question, all_yes, Verdict, verdict}
use Rattle.sheet.specs.Asking.Verdict.{accepted, refused}
use Rattle.sheet.specs.Fields.{header_of, trail_of}
use Rattle.sheet.specs.Facts.{SheetRead}
use Rattle.sheet.specs.Questions.{questions}
use Rattle.sheet.specs.declared.Header.{Header}
use Rattle.sheet.specs.declared.Mode.TheVariants.{Read}
use Rattle.sheet.proofs.Asking.{yes_one, yes_verdict, verdict_yes, go_on}
use Rattle.sheet.proofs.Asking.Comes.{no}
use Rattle.std.specs.Prelude.{Result, IsErrAnd}
use Rattle.answers.specs.Answers.{number_of, place_of}
use Rattle.answers.specs.declared.Refusal.{Refusal}
use Rattle.answers.proofs.Calling.{same_refusal, refuses_too}
use Rattle.changing.specs.Answers.{change_means}
use Rattle.report_buffer.specs.Buffer.{sheet_bytes, bytes_needed}
use Rattle.sheet_indexes.specs.Index.{index_of}
use Rattle.changed_sheets.specs.ChangedSheet.{changed_sheet}
use Rattle.changed_sheets.specs.ChangeCall.{change_questions}
use Rattle.changed_sheets.proofs.Changed.{changed_read}
use Rattle.changed_sheets.proofs.Stage.{Passed, all_passed}
use Rattle.indexed_changes.specs.Renewed.{renewed}
use Rattle.indexed_changes.specs.IndexedCall.{is_own, own_questions, indexed_asks, indexed_call, indexed_sheet}
use Rattle.indexed_changes.specs.Answered.{IndexedAnswered, IndexedMade}
use Rattle.indexed_changes.proofs.Own.{both_told}
use Rattle.indexed_changes.proofs.Answered.{after_reading, indexed_answers_in_order}
use Rattle.lent_questions.proofs.Comparing.{report_length}

module _ (s index report : List ℕ) (k d : ℕ) where
  -- the answer is v, the report afterwards m, and the sheet t
  abbrev pub Ends : Verdict ℕ → List ℕ → List ℕ → Type 0
  Ends v m t =
      (v ≡ (indexed_call s index report k d).answer) × (m ≡ (indexed_call s index report k d).buffer) × (t ≡ indexed_sheet s index report k d)

  -- whether both are the sheet's own
  abbrev pub both_own : Bool
  both_own = is_own (index_of (trail_of s)) index && is_own (sheet_bytes (trail_of s)) report

  answers : IndexedAnswered s index report k d
  answers = indexed_answers_in_order s index report k d

  refusing : {n p : ℕ} → (indexed_call s index report k d).answer ≡ refused n p → Ends (refused n p) report s
  refusing {n} {p} e = let left = answers.kept n p e in (sym e, sym left.unrenewed, sym left.unchanged)

  -- a refusal that is handed on
  handed_on : (x : Result (Unit {0}) Refusal) (e : Refusal) → IsErrAnd x (λ w. w ≡ e)
      → (indexed_call s index report k d).answer ≡ refused (number_of e) (place_of e) → Ends (change_means x) report s
  handed_on x e is told = let left = refusing told in (same_refusal (λ _. 0) x e is ∙ left.0, left.1, left.2)

  pub unread : (x : Result (Unit {0}) Refusal) (e : Refusal) → IsErrAnd x (λ w. w ≡ e)
      → refused (number_of e) (place_of e) ≡ verdict (questions Read s) (header_of s) → Ends (change_means x) report s
  unread x e is told = handed_on x e is (answers.by_reading _ _ (sym told))

  module _ {h : Header} (read : SheetRead s h) where
    pub not_own : both_own ≡ false → Ends (refused 26 0) report s
    not_own other = refusing (after_reading s index report k d read.accepted (no other))

    -- both are, and 17 and 14 are asked with the parts that reading gave
    module _ (own : both_own ≡ true) where
      all_asked : {v : Verdict Header} → v ≡ verdict (change_questions h k d) h → v ≡ verdict (indexed_asks s index report k d) (header_of s)
      all_asked {v} asks =
          subst (λ (p : Header). v ≡ verdict (change_questions p k d) p) (sym read.parts) asks
          ∙ sym (go_on (own_questions (trail_of s) index report) (change_questions (header_of s) k d) (header_of s) (yes_one both_own 26 0 own))
          ∙ sym (go_on (questions Read s) (own_questions (trail_of s) index report ++ change_questions (header_of s) k d) (header_of s) read.accepted)

      pub stage_refused : (x : Result (Unit {0}) Refusal) (e : Refusal) → IsErrAnd x (λ w. w ≡ e)
          → refused (number_of e) (place_of e) ≡ verdict (change_questions h k d) h → Ends (change_means x) report s
      unfolding indexed_call
      stage_refused x e is told =
          handed_on x e is (sym (refuses_too (indexed_asks s index report k d) [] (header_of s) 0 (all_asked told)
          ∙ ap (λ (qs : List Question). verdict qs 0) (append-nil (indexed_asks s index report k d))))

      module _ {g : Header} (asks : accepted g ≡ verdict (change_questions h k d) h) where
        pub passed : Passed s k d h
        passed = all_passed read k d asks

        yes_to_all : all_yes (indexed_asks s index report k d) ≡ true
        yes_to_all = (yes_verdict (indexed_asks s index report k d) (header_of s) g (sym (all_asked asks))).0

        told : IndexedMade s index report k d 0
        unfolding indexed_call
        told = answers.made 0 (verdict_yes (indexed_asks s index report k d) 0 yes_to_all)

        -- the changed sheet is read as it was before
        pub read_again : {t : List ℕ} → t ≡ changed_sheet s k d → SheetRead t h
        read_again c = subst (λ (t : List ℕ). SheetRead t h) (sym c) (changed_read read passed.known passed.word)

        -- what renewing asks of the changed sheet, its index and the report
        pub renewing : {t : List ℕ} → t ≡ changed_sheet s k d
            → (k < h.lines) × (index ≡ index_of (trail_of t)) × (length report ≡ bytes_needed h.lines)
        renewing c = (
          passed.known,
          told.index_afresh ∙ ap (λ (t : List ℕ). index_of (trail_of t)) (sym c),
          ap length told.lent_own_report ∙ report_length read,
        )

        pub made : {t m : List ℕ} → t ≡ changed_sheet s k d → m ≡ renewed (trail_of t) k report → Ends (accepted 0) m t
        unfolding indexed_call indexed_sheet
        made c r = (
          sym (verdict_yes (indexed_asks s index report k d) 0 yes_to_all),
          r ∙ ap (λ (t : List ℕ). renewed (trail_of t) k report) c
              ∙ sym (ap (λ (b : Bool). cond b (renewed (trail_of (changed_sheet s k d)) k report) report) yes_to_all),
          c ∙ sym (ap (λ (b : Bool). cond b (changed_sheet s k d) s) yes_to_all),
        )
