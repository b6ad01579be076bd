-- What a part takes of the room that it was lent.
use Prim.Native.Nat.{ℕ, ◌+◌, ◌-◌, ◌≤◌}
use native.Mathlib.Omega.{arith}
use mathlib.Core.Path.{◌≡◌, ap, ◌∙◌}
use mathlib.Core.List.{List, ◌++◌, append-nil}
use lib.ListN.{length, take, drop, length-drop, drop_of_length-le}
use lib.Seq.{take_all}
use borrow.Rule.Slice.PartMut.{put_mid}
use Rattle.sheet.specs.Asking.Verdict.{accepted}
use Rattle.sheet.specs.Fields.{trail_of}
use Rattle.text_parts.proofs.Calls.{part_within}
use Rattle.clause_file.specs.Parts.{file_part}
use Rattle.report_file.specs.Parts.{report_part}
use Rattle.printing.specs.Texts.{text_call}
use Rattle.printing.specs.declared.Text.{Text}
use Rattle.printing.specs.declared.Text.TheVariants.{Report, Clauses}

pub text_within : (text : Text) (s : List ℕ) (part : ℕ) (out : List ℕ) {n : ℕ} → accepted n ≡ (text_call text s part out).answer → n ≤ length out
text_within Report s part out e = part_within s part (report_part (trail_of s) part) out e
text_within Clauses s part out e = part_within s part (file_part (trail_of s) part) out e

-- behind what is gathered
pub gathered_within : (text : Text) (s : List ℕ) (part a : ℕ) (out : List ℕ) {n : ℕ} → accepted n ≡ (text_call text s part (drop a out)).answer
    → a ≤ length out → a + n ≤ length out
gathered_within text s part a out e h = omega (arith, text_within text s part (drop a out) e, length-drop a out)

-- ---- the part of a buffer behind a position, as it is lent and comes back

module _ (a : ℕ) (s : List ℕ) where
  pub rest_lent : take (length s - a) (drop a s) ≡ drop a s
  rest_lent = take_all (length s - a) (drop a s) (omega (arith, length-drop a s))

  pub rest_back : (new : List ℕ) → put_mid a (length s - a) s new ≡ take a s ++ new
  rest_back new =
      ap (λ (l : List ℕ). take a s ++ (new ++ l)) (drop_of_length-le (drop a s) {i = length s - a} (omega (arith, length-drop a s)))
      ∙ ap (λ (l : List ℕ). take a s ++ l) (append-nil new)
