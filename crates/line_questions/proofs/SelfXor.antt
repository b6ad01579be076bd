-- Question 23, and then the line's other questions: rules for `search`. The premise on t is what `self_xor_admitted` promises.
use Prim.Native.Nat.{ℕ}
use mathlib.Core.Path.{◌≡◌, sym, ◌∙◌}
use mathlib.Core.Bool.{Bool, true, false, not, and-true, true≢false}
use mathlib.Core.List.{List, [], ◌++◌}
use borrow.Author.Tests.{not-true, not-false}
use Rattle.sheet.specs.Asking.{Question, all_yes, Verdict, verdict}
use Rattle.sheet.specs.Asking.Verdict.{refused}
use Rattle.sheet.specs.Questions.{self_xor_questions, field_questions}
use Rattle.sheet.specs.declared.Header.{Header}
use Rattle.sheet.specs.declared.Record.{Record}
use Rattle.sheet.specs.declared.Mode.{Mode}
use Rattle.sheet.specs.declared.Mode.TheVariants.{Read, Seal}
use Rattle.sheet.proofs.Asking.{yes_first, Comes, came}
use Rattle.sheet.proofs.Asking.Comes.{yes, no}

pub self_xor_passes : {A : Type 0} (mode : Mode) (k : ℕ) (r : Record) {qs : List Question} {a : A} {v : Verdict A} {t : Bool}
    → ((i : ℕ) → t ≡ all_yes (self_xor_questions mode i r)) → not t ≡ false → Comes qs a v → Comes (self_xor_questions mode k r ++ qs) a v
unfolding self_xor_questions
self_xor_passes Read k r told e c = c
self_xor_passes Seal k r told e c = yes (yes_first _ 23 k [] (sym (told k) ∙ not-false _ e)) c

pub self_xor_refuses : {A : Type 0} (mode : Mode) (k : ℕ) (r : Record) (qs : List Question) {a : A} {t : Bool}
    → ((i : ℕ) → t ≡ all_yes (self_xor_questions mode i r)) → not t ≡ true → Comes (self_xor_questions mode k r ++ qs) a (refused 23 k)
unfolding self_xor_questions all_yes
self_xor_refuses Read k r qs told e = absurd (true≢false (sym (told 0) ∙ not-true _ e))
self_xor_refuses Seal k r qs told e = no (sym (and-true _) ∙ sym (told k) ∙ not-true _ e)

pub fields_come : {A : Type 0} (h : Header) (k : ℕ) (r : Record) {a : A} {v : Verdict A}
    → v ≡ verdict (field_questions h k r) a → Comes (field_questions h k r) a v
fields_come h k r e = came (field_questions h k r) e
