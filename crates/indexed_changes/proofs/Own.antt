-- What was lent is the sheet's own exactly if the test says so.
use Prim.Native.Nat.{ℕ, ◌<◌}
use mathlib.Core.Path.{◌≡◌, refl, sym, ap, subst, ◌∙◌}
use mathlib.Core.Logic.{◌≢◌, ◌⊎◌, inl, inr}
use mathlib.Core.Bool.{Bool, true, false, ◌&&◌, and-eq-true_iff}
use mathlib.Core.List.{List}
use borrow.Author.Tests.{eqb-true, eq-eqb}
use lib.Dec.{eqb}
use lib.ListN.{length, get_or}
use lib.Seq.{ext_get_or}
use Rattle.words.specs.Below.{all}
use Rattle.words.proofs.Below.{all_true, all_yes_lem}
use Rattle.indexed_changes.specs.IndexedCall.{is_own, OwnExactly}

pub own_told : (own lent : List ℕ) → is_own own lent ≡ true → lent ≡ own
unfolding is_own
own_told own lent told =
    let both = (and-eq-true_iff _ _).0 told in
    let long = eqb-true (length lent) (length own) both.0 in
    sym (ext_get_or 0 own lent (sym long) (λ i l. sym (eqb-true (get_or lent i 0) (get_or own i 0) (all_true (length own) _ both.1 i l))))

pub own_itself : (own : List ℕ) → is_own own own ≡ true
unfolding is_own
own_itself own =
    (and-eq-true_iff _ _).1 (eq-eqb (length own) (length own) refl, all_yes_lem (length own) _ (λ i l. eq-eqb (get_or own i 0) (get_or own i 0) refl))

pub own_exactly : OwnExactly
own_exactly own lent = (own_told own lent, λ e. subst (λ (l : List ℕ). is_own own l ≡ true) (sym e) (own_itself own))

-- both lists are
module _ (a b c d : List ℕ) where
  pub both_own_lem : c ≡ a → d ≡ b → (is_own a c && is_own b d) ≡ true
  both_own_lem e f = (and-eq-true_iff _ _).1 ((own_exactly a c).1 e, (own_exactly b d).1 f)

  pub both_told : (is_own a c && is_own b d) ≡ true → (c ≡ a) × (d ≡ b)
  both_told told = let both = (and-eq-true_iff _ _).0 told in (own_told a c both.0, own_told b d both.1)

  -- or one is not
  pub one_other : (c ≢ a) ⊎ (d ≢ b) → (is_own a c && is_own b d) ≡ false
  one_other other = at (is_own a c && is_own b d) refl other
    where
      at : (t : Bool) → (is_own a c && is_own b d) ≡ t → (c ≢ a) ⊎ (d ≢ b) → t ≡ false
      at false told _ = refl
      at true told (inl h) = absurd (h (both_told told).0)
      at true told (inr h) = absurd (h (both_told told).1)
