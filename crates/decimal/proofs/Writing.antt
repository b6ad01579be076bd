-- What the writers have written, a number from its last digit on. Assumes nothing.
use mathlib.Core.Path.{◌≡◌, refl, sym, ap, ◌∙◌}
use mathlib.Core.List.{List, [], ◌∷◌, ◌++◌, append_assoc}
use Prim.Native.Nat.{ℕ, suc, ◌+◌, ◌-◌, ◌/◌, ◌%◌, ◌≤◌, ◌<◌}
use native.Mathlib.Numerals.{add-one}
use native.Mathlib.Omega.{arith}
use lib.ListN.{length, take, drop, set, get_or, length-append, length-set, drop_of_length-le}
use lib.Seq.{length-take-le, take-set-le, set_split, drop_at, drop-cons}
use Rattle.buffers.specs.Overwrite.{overwrite, Wrote}
use Rattle.buffers.proofs.Overwrite.{set_overwrite, overwrite_cons}
use Rattle.decimal.specs.Ascii.{ascii}
use Rattle.decimal.specs.Decimal.{decimal, spaced, behind}
use Rattle.decimal.proofs.Decimals.{small, large, length_small, length_large}

module _ {A : Type 0} where
  drop_set : (p : ℕ) (v : A) (l : List A) → p < length l → drop p (set l p v) ≡ v ∷ drop (suc p) l
  drop_set p v l h =
      ap (drop p) (set_split l p v h) ∙ drop_at (take p l) (v ∷ drop (suc p) l) p (length-take-le p l (omega arith))

  -- the last of what is to be written can be stored first
  pub overwrite_last : (at : ℕ) (a : List A) (v : A) (l : List A) → at + length a < length l
      → overwrite at (a ++ (v ∷ [])) l ≡ overwrite at a (set l (at + length a) v)
  unfolding overwrite
  overwrite_last at a v l h =
      let e : at + length (a ++ (v ∷ [])) ≡ suc (at + length a) = omega (arith, length-append a (v ∷ [])) in
      rw (e, append_assoc, take-set-le at l (at + length a) v (omega arith), drop_set (at + length a) v l h)

-- The digits of `value` are to be written over l from `at` on: those behind the text of `rest` are written, which made it m.
pub record Ahead (at value : ℕ) (l : List ℕ) (p rest : ℕ) (m : List ℕ) : Type 0 where
  pub next : p ≡ at + length (decimal rest)
  pub fits : p ≤ length m
  pub long : length m ≡ length l
  pub now_is : overwrite at (decimal rest) m ≡ overwrite at (decimal value) l

module _ (at value : ℕ) (l : List ℕ) where
  pub ahead_start : at + length (decimal value) ≤ length l → Ahead at value l (at + length (decimal value)) value l
  ahead_start h = record { next = refl; fits = h; long = refl; now_is = refl }

  pub ahead_next : {p rest : ℕ} {m : List ℕ} → Ahead at value l p rest m → 10 ≤ rest
      → Ahead at value l (p - 1) (rest / 10) (set m (p - 1) (48 + rest % 10))
  ahead_next {p} {rest} {m} h more =
      let e : p - 1 ≡ at + length (decimal (rest / 10)) = omega (arith, length_large rest more) in
      let room : at + length (decimal (rest / 10)) < length m = omega (arith, length_large rest more) in
      record {
        next = e;
        fits = rw length-set (omega arith);
        long = rw length-set h.long;
        now_is = rw e (sym (overwrite_last at (decimal (rest / 10)) (48 + rest % 10) m room) ∙ ap (λ (t : List ℕ). overwrite at t m) (sym (large rest more)) ∙ h.now_is);
      }

  pub ahead_end : {p rest : ℕ} {m : List ℕ} → Ahead at value l p rest m → rest < 10
      → set m at (48 + rest) ≡ overwrite at (decimal value) l
  ahead_end {p} {rest} {m} h one =
      set_overwrite at (48 + rest) m (omega (arith, length_small rest one)) ∙ ap (λ (t : List ℕ). overwrite at t m) (sym (small rest one)) ∙ h.now_is

-- ---- a number after a blank

pub length_spaced : (v : ℕ) → length (spaced v) ≡ suc (length (decimal v))
unfolding spaced ascii
length_spaced v = refl

pub spaced_wrote : (v : ℕ) {at : ℕ} {l : List ℕ} → at + length (spaced v) ≤ length l → {p : ℕ} {m : List ℕ}
    → Wrote (at + 1) (decimal v) (set l at 32) p m → Wrote at (spaced v) l p m
unfolding spaced ascii
spaced_wrote v {at} {l} room w =
    record { next = omega arith; now_is = w.now_is ∙ sym (overwrite_cons at 32 (decimal v) l (omega arith)) }

-- ---- numbers, each after a blank, one after the other, and the line's end

module _ (ns : List ℕ) where
  pub line_next : (i : ℕ) → i < length ns → behind (drop i ns) ≡ spaced (get_or ns i 0) ++ behind (drop (i + 1) ns)
  unfolding behind
  line_next i h = rw (add-one, drop-cons ns i 0)

  pub line_end : (i : ℕ) → length ns ≤ i → behind (drop i ns) ≡ 10 ∷ []
  unfolding behind ascii
  line_end i h = rw (drop_of_length-le ns {i = i} h)
