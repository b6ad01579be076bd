-- What the code has left and replied after the first i pairs.
use Prim.Native.Nat.{ℕ, ◌+◌, ◌*◌, ◌/◌, ◌<◌, ◌≤◌}
use native.Mathlib.Numerals.{add-one}
use native.Mathlib.Omega.{arith}
use mathlib.Core.Path.{◌≡◌, refl, sym, ap, ap₂, subst, ◌∙◌}
use mathlib.Core.Bool.{Bool, true, false, cond}
use mathlib.Core.List.{List, [], ◌∷◌, ◌++◌}
use lib.Dec.{ltb}
use lib.ListN.{length, get_or, set}
use Rattle.words.specs.Words.{is_word}
use Rattle.words.specs.Below.{tabulate}
use Rattle.words.proofs.Below.{length_tabulate}
use Rattle.buffers.specs.Overwrite.{Wrote}
use Rattle.buffers.proofs.Overwrite.{overwrite_length}
use Rattle.buffers.proofs.Appending.{wrote_none, wrote_set, wrote_append}
use Rattle.sheet.specs.Asking.{verdict}
use Rattle.sheet.specs.Asking.Verdict.{accepted, refused}
use Rattle.sheet.specs.Facts.{SheetRead}
use Rattle.sheet.specs.declared.Header.{Header}
use Rattle.changed_sheets.specs.ChangeCall.{change_questions, change_call}
use Rattle.change_lists.specs.Pairs.{Pair, pairs_of}
use Rattle.change_lists.specs.Applied.{sheet_after, reply_of, replies_to}
use Rattle.change_lists.proofs.Pairs.{pair_at, pairs_tabulated}
use Rattle.change_lists.proofs.Lists.{after_last, replies_last, replies_count, list_read}

-- ---- the first i pairs

abbrev pub first_pairs : List ℕ → ℕ → List Pair
first_pairs numbers i = tabulate i (pair_at numbers)

-- the sheet is t, and the reply buffer m
pub record Replied (s numbers out : List ℕ) (i : ℕ) (t m : List ℕ) : Type 0 where
  pub sheet : t ≡ sheet_after s (first_pairs numbers i)
  pub replies : Wrote 0 (replies_to s (first_pairs numbers i)) out i m

module _ (s numbers out : List ℕ) where
  pub replied_none : Replied s numbers out 0 s out
  unfolding tabulate sheet_after replies_to
  replied_none = record { sheet = refl; replies = wrote_none 0 out }

  replies_so_far : (i : ℕ) → length (replies_to s (first_pairs numbers i)) ≡ i
  replies_so_far i = replies_count s (first_pairs numbers i) ∙ length_tabulate i (pair_at numbers)

  module _ {i : ℕ} {t m : List ℕ} (now : Replied s numbers out i t m) where
    pub still_read : {h : Header} → SheetRead s h → SheetRead t h
    still_read {h} read = subst (λ (l : List ℕ). SheetRead l h) (sym now.sheet) (list_read read (first_pairs numbers i))

    same_room : i ≤ length out → length m ≡ length out
    same_room room = ap length now.replies.now_is ∙ overwrite_length 0 _ out (omega (arith, replies_so_far i))

    -- pair i is applied or skipped, and replied to
    pub replied_next : {k d r : ℕ} {t₁ m₁ : List ℕ} → i < length out → k ≡ get_or numbers (2 * i) 0 → d ≡ get_or numbers (2 * i + 1) 0
        → r ≡ reply_of (change_call t k d).answer → t₁ ≡ (change_call t k d).buffer → m₁ ≡ set m i r
        → Replied s numbers out (i + 1) t₁ m₁
    unfolding tabulate
    replied_next {k} {d} {r} {t₁} {m₁} room line difference reply left written =
        let ps = first_pairs numbers i in
        let p = pair_at numbers i in
        let answer : r ≡ reply_of (change_call (sheet_after s ps) p.line p.difference).answer =
        reply ∙ ap (λ (l : List ℕ). reply_of (change_call l k d).answer) now.sheet ∙ ap₂ (λ (a b : ℕ). reply_of (change_call (sheet_after s ps) a b).answer) line difference in
        let buffer : t₁ ≡ (change_call (sheet_after s ps) p.line p.difference).buffer =
        left ∙ ap (λ (l : List ℕ). (change_call l k d).buffer) now.sheet ∙ ap₂ (λ (a b : ℕ). (change_call (sheet_after s ps) a b).buffer) line difference in
        let one : Wrote i (r ∷ []) m (i + 1) m₁ = subst (Wrote i (r ∷ []) m (i + 1)) (sym written) (wrote_set i r m (omega (arith, same_room (omega arith)))) in
        let both = wrote_append (omega (arith, replies_so_far i)) now.replies one in
        let next : first_pairs numbers (i + 1) ≡ ps ++ (p ∷ []) = rw add-one refl in
        record {
          sheet = buffer ∙ sym (after_last s ps p) ∙ ap (sheet_after s) (sym next);
          replies =
              subst (λ (l : List ℕ). Wrote 0 l out (i + 1) m₁)
              (ap (λ (z : ℕ). replies_to s ps ++ (z ∷ [])) answer ∙ sym (replies_last s ps p) ∙ ap (replies_to s) (sym next)) both;
        }

    -- all of them
    pub replied_all : i ≡ length numbers / 2 → Wrote 0 (replies_to s (pairs_of numbers)) out i m × (t ≡ sheet_after s (pairs_of numbers))
    replied_all e =
        let all = ap (λ (n : ℕ). tabulate n (pair_at numbers)) e ∙ sym (pairs_tabulated numbers) in
        (subst (λ (ps : List Pair). Wrote 0 (replies_to s ps) out i m) all now.replies, now.sheet ∙ ap (sheet_after s) all)
