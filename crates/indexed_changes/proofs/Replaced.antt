-- One part of a list that is put together of parts, written over.
use Prim.Native.Nat.{ℕ, zero, suc, ◌+◌, ◌≤◌, ◌<◌}
use native.Mathlib.Omega.{arith}
use mathlib.Core.Path.{◌≡◌, sym, ap, ap₂, ◌∙◌}
use mathlib.Core.Logic.{◌≢◌}
use mathlib.Core.List.{List, [], ◌++◌, append_assoc, append-nil}
use lib.ListN.{length, take, drop, drop_of_length-le}
use lib.Seq.{take-append-le, drop-append-le, take-append_seam, drop-append-add}
use Rattle.words.specs.Below.{concat}
use Rattle.words.proofs.Below.{below_suc, concat_cong}
use Rattle.buffers.specs.Overwrite.{overwrite}
use Rattle.sheet_indexes.proofs.Parts.{part_fits}

module _ {A : Type 0} where
  -- within the first of two lists
  overwrite_left : (at : ℕ) (new a b : List A) → at + length new ≤ length a → overwrite at new (a ++ b) ≡ overwrite at new a ++ b
  unfolding overwrite
  overwrite_left at new a b fits =
      ap₂ (λ (x y : List A). x ++ (new ++ y)) (take-append-le at a b (omega arith)) (drop-append-le (at + length new) a b fits)
      ∙ ap (λ (x : List A). take at a ++ x) (sym (append_assoc new (drop (at + length new) a) b))
      ∙ sym (append_assoc (take at a) (new ++ drop (at + length new) a) b)

  -- all of the second
  overwrite_right : (new a b : List A) → length new ≡ length b → overwrite (length a) new (a ++ b) ≡ a ++ new
  unfolding overwrite
  overwrite_right new a b e =
      ap₂ (λ (x y : List A). x ++ (new ++ y)) (take-append_seam a b)
      (drop-append-add a b (length new) ∙ drop_of_length-le b {i = length new} (omega arith))
      ∙ ap (λ (x : List A). a ++ x) (append-nil new)

  -- part i replaced by one as long
  pub part_replaced : (f g : ℕ → List A) (b i : ℕ) → i < b → length (g i) ≡ length (f i) → ((x : ℕ) → x ≢ i → f x ≡ g x)
      → overwrite (length (concat i f)) (g i) (concat b f) ≡ concat b g
  unfolding concat
  part_replaced f g zero i l long others = absurd (omega arith)
  part_replaced f g (suc b) i l long others =
      below_suc (λ j. length (g j) ≡ length (f j) → ((x : ℕ) → x ≢ j → f x ≡ g x)
      → overwrite (length (concat j f)) (g j) (concat b f ++ f b) ≡ concat b g ++ g b) b
      (λ j less same apart.
      overwrite_left (length (concat j f)) (g j) (concat b f) (f b) (omega (arith, part_fits f b j less))
      ∙ ap₂ ◌++◌ (part_replaced f g b j less same apart) (apart b (λ e. omega arith)))
      (λ same apart.
      overwrite_right (g b) (concat b f) (f b) same
      ∙ ap (λ (x : List A). x ++ g b) (concat_cong b f g (λ x h. apart x (λ e. omega arith))))
      i l long others
