-- What one pair comes to, on a sheet that was read: it is applied, or skipped, and the sheet afterwards is again one that was read,
-- with the same parts.
use Prim.Native.Nat.{ℕ, ◌^◌, ◌<◌, ◌≤◌}
use native.Mathlib.Decide.{dec_lt}
use native.Mathlib.Omega.{arith}
use mathlib.Core.Path.{◌≡◌, sym, ap, subst, ◌∙◌}
use mathlib.Core.List.{List}
use Rattle.sheet.specs.Asking.{verdict}
use Rattle.sheet.specs.Asking.Verdict.{accepted, refused}
use Rattle.sheet.specs.Fields.{header_of}
use Rattle.sheet.specs.Questions.{questions}
use Rattle.sheet.specs.Facts.{SheetRead}
use Rattle.sheet.specs.declared.Header.{Header}
use Rattle.sheet.specs.declared.Mode.TheVariants.{Read}
use Rattle.sheet.proofs.Asking.{go_on}
use Rattle.changed_sheets.specs.ChangedSheet.{changed_sheet}
use Rattle.changed_sheets.specs.ChangeCall.{change_questions, change_call}
use Rattle.changed_sheets.specs.Answered.{ChangeAnswered}
use Rattle.changed_sheets.proofs.Changed.{changed_read}
use Rattle.changed_sheets.proofs.Answered.{change_answers_in_order}
use Rattle.change_lists.specs.Pairs.{Pair}
use Rattle.change_lists.specs.Applied.{change_of, reply_of}
use Rattle.change_lists.specs.Theorem.{Applies}

pub applies? : (h : Header) (p : Pair) → Dec (Applies h p)
applies? h p = at (dec_lt p.line h.lines) (dec_lt p.difference (2 ^ h.width))
  where
    at : Dec (p.line < h.lines) → Dec (p.difference < 2 ^ h.width) → Dec (Applies h p)
    at (yes known) (yes word) = yes (known, word)
    at (yes known) (no large) = no (λ a. large a.1)
    at (no past) asked = no (λ a. past a.0)

-- a refusal has a number
record Refusing (s : List ℕ) (p : Pair) : Type 0 where
  number : ℕ
  place : ℕ
  least : 1 ≤ number
  says : (change_of s p).answer ≡ refused number place

module _ {s : List ℕ} {h : Header} (read : SheetRead s h) (p : Pair) where
  abbrev k : ℕ
  k = p.line

  abbrev d : ℕ
  d = p.difference

  answers : ChangeAnswered s k d
  answers = change_answers_in_order s k d

  -- held against the parts that reading gave
  here : (So : Header → Type 0) → So h → So (header_of s)
  here So so = subst So (sym read.parts) so

  pub applied_answer : Applies h p → (change_of s p).answer ≡ accepted 0
  applied_answer a = answers.passes read.accepted (here (λ g. k < g.lines) a.0) (here (λ g. d < 2 ^ g.width) a.1)

  pub applied_sheet : Applies h p → (change_of s p).buffer ≡ changed_sheet s k d
  applied_sheet a = (answers.made 0 (applied_answer a)).sheet

  refusing : (Applies h p → ⊥) → Refusing s p
  refusing not = at (dec_lt k h.lines) (dec_lt d (2 ^ h.width))
    where
      at : Dec (k < h.lines) → Dec (d < 2 ^ h.width) → Refusing s p
      at (yes known) (yes word) = absurd (not (known, word))
      at (yes known) (no large) = record {
        number = 14;
        place = k;
        least = omega arith;
        says = answers.no_word read.accepted (here (λ g. k < g.lines) known) (here (λ g. 2 ^ g.width ≤ d) (omega arith));
      }
      at (no past) asked = record {
        number = 17;
        place = 0;
        least = omega arith;
        says = answers.past_the_last read.accepted (here (λ g. g.lines ≤ k) (omega arith));
      }

  pub skipped_sheet : (Applies h p → ⊥) → (change_of s p).buffer ≡ s
  skipped_sheet not = let r = refusing not in answers.kept r.number r.place r.says

  pub skipped_reply : (Applies h p → ⊥) → 1 ≤ reply_of (change_of s p).answer
  skipped_reply not = let r = refusing not in subst (λ (n : ℕ). 1 ≤ n) (sym (ap reply_of r.says)) r.least

  pub read_after : SheetRead (change_of s p).buffer h
  read_after = at (applies? h p)
    where
      at : Dec (Applies h p) → SheetRead (change_of s p).buffer h
      at (yes a) = subst (λ (t : List ℕ). SheetRead t h) (sym (applied_sheet a)) (changed_read read a.0 a.1)
      at (no not) = subst (λ (t : List ℕ). SheetRead t h) (sym (skipped_sheet not)) read

  -- what the call answers hangs on the sheet's parts alone
  pub answer_by_parts : (change_of s p).answer ≡ verdict (change_questions h k d) 0
  unfolding change_call
  answer_by_parts =
      go_on (questions Read s) _ 0 read.accepted ∙ ap (λ (g : Header). verdict (change_questions g k d) 0) read.parts
