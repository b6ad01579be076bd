-- What the call answers and leaves, from what reading answered and what was written.
use Prim.Native.Nat.{ℕ, ◌/◌, ◌<◌, ◌≤◌}
use native.Mathlib.Omega.{arith}
use mathlib.Core.Path.{◌≡◌, sym, ap, ◌∙◌}
use mathlib.Core.List.{List}
use lib.ListN.{length}
use Rattle.buffers.specs.Overwrite.{Wrote}
use Rattle.sheet.specs.Asking.{Verdict, verdict}
use Rattle.sheet.specs.Asking.Verdict.{accepted, refused}
use Rattle.sheet.specs.Fields.{header_of}
use Rattle.sheet.specs.Questions.{questions}
use Rattle.sheet.specs.Facts.{SheetRead}
use Rattle.sheet.specs.declared.Header.{Header}
use Rattle.sheet.specs.declared.Mode.TheVariants.{Read}
use Rattle.std.specs.Prelude.{Result, IsErrAnd}
use Rattle.answers.specs.Answers.{number_of, place_of}
use Rattle.answers.specs.declared.Refusal.{Refusal}
use Rattle.answers.specs.Calls.{writing}
use Rattle.answers.proofs.Calling.{same_refusal, written}
use Rattle.change_lists.specs.Pairs.{pairs_of}
use Rattle.change_lists.specs.Applied.{sheet_after, replies_to}
use Rattle.change_lists.specs.ChangesCall.{changes_asks, changes_call, changes_sheet}
use Rattle.change_lists.specs.Answered.{ChangesAnswered}
use Rattle.change_lists.proofs.Pairs.{pairs_count}
use Rattle.change_lists.proofs.Lists.{replies_count}
use Rattle.change_lists.proofs.Answered.{changes_answer_in_order}
use Rattle.changing_all.specs.Answers.{changes_means}

module _ (s numbers out : List ℕ) where
  -- the answer is v, the reply buffer afterwards m, and the sheet t
  abbrev pub Ends : Verdict ℕ → List ℕ → List ℕ → Type 0
  Ends v m t = (v ≡ (changes_call s numbers out).answer) × (m ≡ (changes_call s numbers out).buffer) × (t ≡ changes_sheet s numbers out)

  answers : ChangesAnswered s numbers out
  answers = changes_answer_in_order s numbers out

  refusing : {n p : ℕ} → (changes_call s numbers out).answer ≡ refused n p → Ends (refused n p) out s
  refusing {n} {p} e = let left = answers.kept n p e in (sym e, sym left.unwritten, sym left.unapplied)

  pub unread : (x : Result ℕ Refusal) (e : Refusal) → IsErrAnd x (λ w. w ≡ e)
      → refused (number_of e) (place_of e) ≡ verdict (questions Read s) (header_of s) → Ends (changes_means x) out s
  unread x e is told =
      let left = refusing (answers.by_reading _ _ (sym told)) in
      (same_refusal (λ n. n) x e is ∙ left.0, left.1, left.2)

  module _ {h : Header} (read : SheetRead s h) where
    pub too_many : 64 < length numbers / 2 → Ends (refused 24 0) out s
    too_many many = refusing (answers.too_many read.accepted (omega (arith, pairs_count numbers)))

    module _ (few : length numbers / 2 ≤ 64) where
      pub too_short : length out < length numbers / 2 → Ends (refused 25 0) out s
      too_short short = refusing (answers.too_short read.accepted (omega (arith, pairs_count numbers)) (omega (arith, pairs_count numbers)))

      pub made : {n : ℕ} {m t : List ℕ} → length numbers / 2 ≤ length out → Wrote 0 (replies_to s (pairs_of numbers)) out n m
          → t ≡ sheet_after s (pairs_of numbers) → Ends (accepted n) m t
      unfolding writing
      made enough wrote left =
          let count = pairs_count numbers in
          let passes = answers.passes read.accepted (omega (arith, count)) (omega (arith, count)) in
          let told =
          written (changes_asks s numbers out) (replies_to s (pairs_of numbers)) out wrote
          (ap accepted (replies_count s (pairs_of numbers)) ∙ sym passes) in
          (told.0, told.1, left ∙ sym (answers.made _ passes).sheet)
