-- A changed sheet is again an accepted one, whose trail is the changed trail.
use Prim.Native.Nat.{ℕ, ◌^◌, ◌<◌}
use native.Mathlib.Omega.{arith}
use mathlib.Core.Path.{◌≡◌, sym, ap, subst, ◌∙◌}
use mathlib.Core.List.{List}
use Rattle.words.specs.Below.{tabulate}
use Rattle.words.proofs.Below.{tabulate_cong, tabulate_set}
use Rattle.trail.specs.declared.Line.{Line}
use Rattle.trail.specs.Changing.{stating, with_difference}
use Rattle.sheet.specs.Fields.{form_of, header_of, input_difference, record_of, line_of, trail_of}
use Rattle.sheet.specs.Questions.{IsAccepted}
use Rattle.sheet.specs.Facts.{SheetRead}
use Rattle.sheet.specs.declared.Header.{Header}
use Rattle.sheet.specs.declared.Mode.TheVariants.{Read}
use Rattle.sheet.proofs.TrailParts.{trail_line}
use Rattle.sheet.proofs.QuestionBytes.{input_differences_same}
use Rattle.sheet.proofs.WellFormed.{accepted_limited, has_read}
use Rattle.changed_sheets.specs.ChangedSheet.{changed_sheet}
use Rattle.changed_sheets.specs.Theorem.{ChangedSheetsAreRight}
use Rattle.changed_sheets.proofs.ChangedBytes.{changed_length, other_bytes}
use Rattle.changed_sheets.proofs.ChangedQuestions.{same_start, same_header, other_record, stated_record, changed_accepted}

module _ (s : List ℕ) (k d : ℕ) (accepts : IsAccepted s) (known : k < (header_of s).lines) (word : d < 2 ^ (header_of s).width) where
  abbrev t : List ℕ
  t = changed_sheet s k d

  pub changed_trail : trail_of t ≡ with_difference (trail_of s) k d
  unfolding trail_of
  changed_trail =
      let f = form_of s in
      let same = same_header s k d accepts known in
      let width = ap (λ (p : Header). p.width) same in
      let inputs =
      ap (λ (p : Header). tabulate p.inputs (input_difference p.form t)) same
      ∙ tabulate_cong (header_of s).inputs (input_difference f t) (input_difference f s)
      (λ j l. input_differences_same (same_start s k d accepts known) f j (omega (arith, (accepted_limited Read s accepts).inputs_most))) in
      let stated =
      ap line_of (stated_record s k d accepts known word) ∙ ap (λ (l : Line). stating l d) (sym (trail_line s k known)) in
      let lines =
      ap (λ (p : Header). tabulate p.lines (λ i. line_of (record_of p.form t i))) same
      ∙ tabulate_set (header_of s).lines (λ i. line_of (record_of f t i)) (λ i. line_of (record_of f s i)) k known stated
      (λ i other. ap line_of (other_record s k d accepts known i other)) in
      λ i. record { width = width i; inputs = inputs i; lines = lines i }

pub changed_sheets_are_right : ChangedSheetsAreRight
changed_sheets_are_right s k d accepts known word = record {
  accepted = changed_accepted s k d accepts known word;
  trail = changed_trail s k d accepts known word;
  same_length = changed_length s k d accepts known;
  other_bytes = other_bytes s k d accepts known;
}

-- a sheet that was read, changed, has the parts that reading gave
module _ {s : List ℕ} {h : Header} (read : SheetRead s h) {k d : ℕ} (known : k < h.lines) (word : d < 2 ^ h.width) where
  known_so : k < (header_of s).lines
  known_so = subst (λ (p : Header). k < p.lines) (sym read.parts) known

  word_so : d < 2 ^ (header_of s).width
  word_so = subst (λ (p : Header). d < 2 ^ p.width) (sym read.parts) word

  pub changed_read : SheetRead (changed_sheet s k d) h
  changed_read =
      has_read (changed_sheet s k d) h (changed_accepted s k d read.accepted known_so word_so)
      (same_header s k d read.accepted known_so ∙ read.parts)

  pub read_trail : trail_of (changed_sheet s k d) ≡ with_difference (trail_of s) k d
  read_trail = changed_trail s k d read.accepted known_so word_so
