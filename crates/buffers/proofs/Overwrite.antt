-- The laws of `overwrite`. Assumes nothing.
use mathlib.Core.Path.{◌≡◌, sym, ◌∙◌}
use mathlib.Core.Logic.{◌⊎◌, ⊎_elim}
use mathlib.Core.List.{List, [], ◌∷◌, ◌++◌, append_assoc, append-nil}
use Prim.Native.Nat.{ℕ, ◌+◌, ◌-◌, ◌≤◌, ◌<◌}
use native.Mathlib.Nat.{add-zero, add_assoc}
use native.Mathlib.Omega.{arith}
use lib.ListN.{length, take, drop, set, get_or, length-append, length-drop, take-append-drop, drop_of_length-le, get_or-append}
use lib.Seq.{length-take-le, take_at, drop-append-add, drop-drop, get_or-take, get_or-drop, get_or-append-add, sets-eq}
use Rattle.buffers.specs.Overwrite.{overwrite}

module _ {A : Type 0} where
  -- nothing is written
  pub overwrite_nil : (at : ℕ) (l : List A) → overwrite at [] l ≡ l
  unfolding overwrite
  overwrite_nil at l = simp (add-zero, take-append-drop)

  -- a whole list is overwritten
  pub overwrite_all : (new l : List A) → length new ≡ length l → overwrite 0 new l ≡ new
  unfolding overwrite
  overwrite_all new l e = rw (drop_of_length-le l {i = 0 + length new} (omega arith), append-nil)

  -- a part `&mut s[a..e]` comes back with new in it: what the borrow checker then says of s
  pub overwrite_part : (a k : ℕ) (s new : List A) → length new ≡ k
      → take a s ++ (new ++ drop k (drop a s)) ≡ overwrite a new s
  unfolding overwrite
  overwrite_part a k s new e = rw (drop-drop, ← e)

  -- one store
  pub set_overwrite : (at : ℕ) (v : A) (l : List A) → at < length l → set l at v ≡ overwrite at (v ∷ []) l
  unfolding overwrite
  set_overwrite at v l h = sets-eq (v ∷ []) l at (omega arith) ∙ append_assoc (take at l) (v ∷ []) (drop (at + 1) l)

-- What fits keeps the length of the list and what stands behind it.
module _ {A : Type 0} (at : ℕ) (new l : List A) (fits : at + length new ≤ length l) where
  length_before : length (take at l) ≡ at
  length_before = length-take-le at l (omega arith)

  length_upto : length (take at l ++ new) ≡ at + length new
  length_upto = rw (length-append, length_before)

  pub overwrite_length : length (overwrite at new l) ≡ length l
  unfolding overwrite
  overwrite_length = simp (length-append, length_before, length-drop) (omega arith)

  pub take_overwrite : take (at + length new) (overwrite at new l) ≡ take at l ++ new
  unfolding overwrite
  take_overwrite = rw (← append_assoc) (take_at (take at l ++ new) _ _ length_upto)

  pub drop_overwrite : (i : ℕ) → at + length new ≤ i → drop i (overwrite at new l) ≡ drop i l
  unfolding overwrite
  drop_overwrite i h =
      let upto : List A = take at l ++ new in
      let behind : List A = drop (at + length new) l in
      let k : ℕ = i - (at + length new) in
      let e : length upto + k ≡ i = omega (arith, length_upto) in
      let f : at + length new + k ≡ i = omega arith in
      cc (append_assoc (take at l) new behind, drop-append-add upto behind k, drop-drop k (at + length new) l)

  pub get_or_overwrite_inside : (i : ℕ) (d : A) → i < length new → get_or (overwrite at new l) (at + i) d ≡ get_or new i d
  unfolding overwrite
  get_or_overwrite_inside i d h =
      let behind : List A = drop (at + length new) l in
      cc (length_before, get_or-append-add (take at l) (new ++ behind) i d, get_or-append new behind d i h)

  pub get_or_overwrite_after : (i : ℕ) (d : A) → at + length new ≤ i → get_or (overwrite at new l) i d ≡ get_or l i d
  get_or_overwrite_after i d h =
      cc (add-zero i, drop_overwrite i h, get_or-drop i (overwrite at new l) 0 d, get_or-drop i l 0 d)

module _ {A : Type 0} where
  pub get_or_overwrite_before : (at : ℕ) (new l : List A) → at ≤ length l → (i : ℕ) (d : A) → i < at
      → get_or (overwrite at new l) i d ≡ get_or l i d
  unfolding overwrite
  get_or_overwrite_before at new l fits i d h =
      get_or-append (take at l) (new ++ drop (at + length new) l) d i (rw length-take-le h) ∙ get_or-take at l i d h

  -- what is not written over stays
  pub get_or_overwrite_outside : (at : ℕ) (new l : List A) → at + length new ≤ length l → (i : ℕ) (d : A)
      → (i < at) ⊎ (at + length new ≤ i) → get_or (overwrite at new l) i d ≡ get_or l i d
  get_or_overwrite_outside at new l fits i d =
      ⊎_elim (get_or_overwrite_before at new l (omega arith) i d) (get_or_overwrite_after at new l fits i d)

  -- two runs of writes, the second where the first ends
  pub overwrite_twice : (at : ℕ) (a b l : List A) → at + length a ≤ length l
      → overwrite (at + length a) b (overwrite at a l) ≡ overwrite at (a ++ b) l
  unfolding overwrite
  overwrite_twice at a b l fits =
      rw (take_overwrite at a l, drop_overwrite at a l fits (at + length a + length b) (omega arith))
      (simp (append_assoc, length-append, add_assoc))

  -- one store after what has been written
  pub overwrite_set : (at : ℕ) (a : List A) (v : A) (l : List A) → at + length a < length l
      → set (overwrite at a l) (at + length a) v ≡ overwrite at (a ++ (v ∷ [])) l
  overwrite_set at a v l h =
      let fits : at + length a ≤ length l = omega arith in
      set_overwrite (at + length a) v (overwrite at a l) (rw overwrite_length h) ∙ overwrite_twice at a (v ∷ []) l fits

  -- the first of what is to be written, and the rest
  pub overwrite_cons : (at : ℕ) (v : A) (vs l : List A) → at < length l
      → overwrite at (v ∷ vs) l ≡ overwrite (at + 1) vs (set l at v)
  overwrite_cons at v vs l h =
      rw (set_overwrite at v l h) (sym (overwrite_twice at (v ∷ []) vs l (omega arith)))
