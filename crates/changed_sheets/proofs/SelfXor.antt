-- Kind and operands of every line are as before.
use Prim.Native.Nat.{ℕ, ◌^◌, ◌<◌}
use native.Mathlib.Decide.{ℕ_discrete}
use mathlib.Core.Path.{◌≡◌, sym, ap, subst, ◌∙◌}
use mathlib.Core.List.{List}
use Rattle.sheet.specs.Fields.{form_of, header_of, record_of}
use Rattle.sheet.specs.Questions.{IsAccepted}
use Rattle.sheet.specs.declared.Header.{Header}
use Rattle.sheet.specs.declared.Record.{Record}
use Rattle.sheet.proofs.FieldBytes.{restated}
use Rattle.changed_sheets.specs.ChangedSheet.{changed_sheet}
use Rattle.changed_sheets.specs.SelfXor.{ChangingKeepsSelfXors}
use Rattle.changed_sheets.proofs.ChangedQuestions.{same_header, other_record, stated_record}

-- of two records
record SameOperands (r q : Record) : Type 0 where
  kind : r.kind ≡ q.kind
  first : r.first ≡ q.first
  second : r.second ≡ q.second

module _ (s : List ℕ) (k d : ℕ) (accepts : IsAccepted s) (known : k < (header_of s).lines) (word : d < 2 ^ (header_of s).width) where
  abbrev t : List ℕ
  t = changed_sheet s k d

  kept : (j : ℕ) → SameOperands (record_of (form_of t) t j) (record_of (form_of s) s j)
  kept j = subst (λ (p : Header). SameOperands (record_of p.form t j) (record_of (form_of s) s j)) (sym (same_header s k d accepts known)) (at (ℕ_discrete j k))
    where
      at : Dec (j ≡ k) → SameOperands (record_of (form_of s) t j) (record_of (form_of s) s j)
      at (yes e) =
          let r = subst (λ (i : ℕ). record_of (form_of s) t i ≡ restated (record_of (form_of s) s i) d) (sym e) (stated_record s k d accepts known word) in
          record { kind = ap (λ (q : Record). q.kind) r; first = ap (λ (q : Record). q.first) r; second = ap (λ (q : Record). q.second) r }
      at (no other) =
          let r = other_record s k d accepts known j other in
          record { kind = ap (λ (q : Record). q.kind) r; first = ap (λ (q : Record). q.first) r; second = ap (λ (q : Record). q.second) r }

pub changing_keeps_self_xors : ChangingKeepsSelfXors
changing_keeps_self_xors s k d accepts known word j =
    let same = kept s k d accepts known word j in
    let header = same_header s k d accepts known in (
      λ at. record {
        below = subst (λ (p : Header). j < p.lines) header at.below;
        kind = sym same.kind ∙ at.kind;
        operands = sym same.first ∙ at.operands ∙ same.second;
      },
      λ at. record {
        below = subst (λ (p : Header). j < p.lines) (sym header) at.below;
        kind = same.kind ∙ at.kind;
        operands = same.first ∙ at.operands ∙ sym same.second;
      },
    )
