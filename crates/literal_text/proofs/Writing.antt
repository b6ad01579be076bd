-- What the writers have written: a literal after its sign, a number and what stands behind it, a list number by number. Assumes nothing.
use Prim.Native.Nat.{ℕ, zero, suc, ◌+◌, ◌≤◌, ◌<◌}
use native.Mathlib.Nat.{not-suc-le-zero}
use native.Mathlib.Numerals.{add-one}
use native.Mathlib.Omega.{arith}
use mathlib.Core.Path.{◌≡◌, refl, sym, ap, subst, ◌∙◌}
use mathlib.Core.Bool.{true, false}
use mathlib.Core.List.{List, [], ◌∷◌, ◌++◌}
use lib.ListN.{length, drop, set, get_or, length-append, length-set, drop_of_length-le}
use lib.Seq.{drop-cons}
use lib.IntN.{ℤ, pos, negsuc, nat_abs}
use lib.Dec.{T, ltb→lt}
use lib.Signed.{lt_z}
use mir.Syntax.{w32}
use mir.Val.{to_z, of_z, SFits}
use mir.Facts.{to_z-of_z}
use Rattle.buffers.specs.Overwrite.{Wrote}
use Rattle.buffers.proofs.Overwrite.{overwrite_cons, overwrite_length}
use Rattle.buffers.proofs.Appending.{wrote_set, wrote_append}
use Rattle.decimal.specs.Ascii.{ascii}
use Rattle.decimal.specs.Decimal.{decimal}
use Rattle.dimacs.specs.Text.{literal_text}
use Rattle.dimacs.specs.Numbers.{number_text, numbers_text}
use Rattle.literal_text.proofs.Magnitudes.{held}

-- a list's text from the i-th number on
module _ (ns : List ℤ) where
  pub text_next : (i : ℕ) → i < length ns → numbers_text (drop i ns) ≡ number_text (get_or ns i (pos 0)) ++ numbers_text (drop (i + 1) ns)
  unfolding numbers_text
  text_next i h = rw (add-one, drop-cons ns i (pos 0))

  pub text_end : (i : ℕ) → length ns ≤ i → numbers_text (drop i ns) ≡ []
  unfolding numbers_text
  text_end i h = rw (drop_of_length-le ns {i = i} h)

-- ---- the machine's tests, and the texts that they tell

minus_text : (n : ℕ) → literal_text (negsuc n) ≡ 45 ∷ decimal (suc n)
unfolding literal_text ascii
minus_text n = refl

plain_text : (n : ℕ) → literal_text (pos n) ≡ decimal n
unfolding literal_text
plain_text n = refl

module _ (z : ℤ) (fits : SFits w32 z) where
  pub is_zero : of_z w32 z ≡ 0 → number_text z ≡ 48 ∷ 10 ∷ []
  unfolding number_text ascii
  is_zero e = let q : z ≡ pos 0 = sym (to_z-of_z fits) ∙ ap (to_z w32) e in rw q

  pub has_minus : lt_z (held z) (pos 0) ≡ true → literal_text z ≡ 45 ∷ decimal (nat_abs z)
  has_minus e = below z (sym (ap (λ (y : ℤ). lt_z y (pos 0)) (to_z-of_z fits)) ∙ e)
    where
      below : (y : ℤ) → lt_z y (pos 0) ≡ true → literal_text y ≡ 45 ∷ decimal (nat_abs y)
      below (pos n) d = absurd (not-suc-le-zero (ltb→lt n 0 (subst T (sym d) tt)))
      below (negsuc n) d = minus_text n

  pub has_none : lt_z (held z) (pos 0) ≡ false → literal_text z ≡ decimal (nat_abs z)
  has_none e = above z (sym (ap (λ (y : ℤ). lt_z y (pos 0)) (to_z-of_z fits)) ∙ e)
    where
      above : (y : ℤ) → lt_z y (pos 0) ≡ false → literal_text y ≡ decimal (nat_abs y)
      above (pos n) d = plain_text n
      above (negsuc n) d = absurd (subst T d tt)

pub is_literal : (z : ℤ) → (of_z w32 z ≡ 0 → ⊥) → number_text z ≡ literal_text z ++ (32 ∷ [])
unfolding number_text ascii
is_literal (pos zero) h = absurd (h refl)
is_literal (pos (suc k)) h = refl
is_literal (negsuc k) h = refl

-- ---- writes

-- the minus, then the variable
pub minus_wrote : {text : List ℕ} (v : ℕ) {at : ℕ} {l : List ℕ} → text ≡ 45 ∷ decimal v → at + length text ≤ length l → {p : ℕ} {m : List ℕ}
    → Wrote (at + 1) (decimal v) (set l at 45) p m → Wrote at text l p m
minus_wrote {text} v {at} {l} e room {p} {m} w =
    subst (λ (t : List ℕ). Wrote at t l p m) (sym e)
    (record { next = omega arith; now_is = w.now_is ∙ sym (overwrite_cons at 45 (decimal v) l (omega (arith, ap length e))) })

-- a literal, then the blank
module _ (literal : List ℕ) (at : ℕ) (l : List ℕ) {text : List ℕ} (e : text ≡ literal ++ (32 ∷ [])) (room : at + length text ≤ length l) where
  pub literal_room : at + length literal ≤ length l
  literal_room = omega (arith, ap length e, length-append literal (32 ∷ []))

  module _ {p : ℕ} {m : List ℕ} (w : Wrote at literal l p m) where
    pub blank_room : p < length m
    blank_room =
        omega (arith, ap length e, length-append literal (32 ∷ []), w.next, ap length w.now_is, overwrite_length at literal l literal_room)

    pub blank_wrote : Wrote at text l (p + 1) (set m p 32)
    blank_wrote =
        subst (λ (t : List ℕ). Wrote at t l (p + 1) (set m p 32)) (sym e) (wrote_append literal_room w (wrote_set p 32 m blank_room))

-- the 0 that closes a clause, and the line's end
pub zero_wrote : {text : List ℕ} {at : ℕ} {l : List ℕ} → text ≡ 48 ∷ 10 ∷ [] → at + length text ≤ length l
    → Wrote at text l (at + 2) (set (set l at 48) (at + 1) 10)
zero_wrote {text} {at} {l} e room =
    subst (λ (t : List ℕ). Wrote at t l (at + 2) (set (set l at 48) (at + 1) 10)) (sym e)
    (record {
      next = refl;
      now_is = (wrote_append {b = 10 ∷ []} (omega (arith, ap length e)) (wrote_set at 48 l (omega (arith, ap length e)))
          (wrote_set (at + 1) 10 (set l at 48) (rw length-set (omega (arith, ap length e))))).now_is;
    })
