-- The least of some windows: that there is one unless all are marked, that there is one only, and what one window more makes of it.
use Prim.Native.Nat.{ℕ, zero, suc, ◌+◌, ◌<◌, ◌≤◌}
use native.Mathlib.Decide.{dec_lt}
use native.Mathlib.Numerals.{add-one}
use native.Mathlib.Omega.{arith}
use mathlib.Core.Path.{◌≡◌, refl, sym, ap, ap₂, subst, ◌∙◌}
use mathlib.Core.Bool.{Bool, true, false, not, ◌&&◌, ◌||◌, cond, and-eq-true_iff, true≢false, false≢true}
use mathlib.Core.List.{List, [], ◌∷◌}
use borrow.Author.Tests.{not-true, leb-true, le-leb}
use lib.Dec.{leb}
use lib.ListN.{length}
use Rattle.words.specs.Below.{all, any}
use Rattle.words.proofs.Below.{below_suc, all_true, all_yes_lem, all_fails, any_found}
use Rattle.sheet_runs.proofs.Least.{First, first_least}
use Rattle.round_windows.specs.Windows.{Entry, is_marked}
use Rattle.round_windows.specs.Least.{weighs_least, least_round, least_numbers, LeastOf, LeastIsRight}

module _ (e : ℕ → Entry) where
  abbrev AllMarked : ℕ → Type 0
  AllMarked n = (i : ℕ) → i < n → is_marked (e i) ≡ true

  -- ---- one window more

  pub marked_next : {n : ℕ} → AllMarked n → is_marked (e n) ≡ true → AllMarked (n + 1)
  marked_next {n} marked here i l = below_suc (λ i. is_marked (e i) ≡ true) n marked here i (omega arith)

  -- all before it are marked
  pub least_first : {n : ℕ} → AllMarked n → is_marked (e n) ≡ false → LeastOf e (n + 1) n
  least_first {n} marked here = record {
    below = omega arith;
    unmarked = here;
    at_most = λ j l other. below_suc (λ j. is_marked (e j) ≡ false → (e n).weight ≤ (e j).weight) n
        (λ j less un. absurd (true≢false (sym (marked j less) ∙ un))) (λ _. omega arith) j (omega arith) other;
    no_lower = λ j l other. absurd (true≢false (sym (marked j l) ∙ other));
  }

  module _ {n i : ℕ} (least : LeastOf e n i) where
    -- it weighs less
    pub least_lower : is_marked (e n) ≡ false → (e n).weight < (e i).weight → LeastOf e (n + 1) n
    least_lower here less = record {
      below = omega arith;
      unmarked = here;
      at_most = λ j l other. below_suc (λ j. is_marked (e j) ≡ false → (e n).weight ≤ (e j).weight) n
          (λ j before un. omega (arith, least.at_most j before un)) (λ _. omega arith) j (omega arith) other;
      no_lower = λ j l other. omega (arith, least.at_most j l other);
    }

    -- it is marked, or weighs no less
    pub least_kept : (is_marked (e n) ≡ false → (e i).weight ≤ (e n).weight) → LeastOf e (n + 1) i
    least_kept more = record {
      below = omega (arith, least.below);
      unmarked = least.unmarked;
      at_most = λ j l other. below_suc (λ j. is_marked (e j) ≡ false → (e i).weight ≤ (e j).weight) n least.at_most more j (omega arith) other;
      no_lower = least.no_lower;
    }

    -- there is no other
    pub least_one : {j : ℕ} → LeastOf e n j → i ≡ j
    least_one {j} other = at (dec_lt i j) (dec_lt j i)
      where
        at : Dec (i < j) → Dec (j < i) → i ≡ j
        at (yes l) _ = absurd (omega (arith, other.no_lower i l least.unmarked, least.at_most j other.below other.unmarked))
        at (no _) (yes l) = absurd (omega (arith, least.no_lower j l other.unmarked, other.at_most i least.below least.unmarked))
        at (no p) (no q) = omega arith

  -- ---- the least that the definition tells

  -- all are marked, or there is a least
  data Told (n : ℕ) : Type 0 where
    none : AllMarked n → Told n
    some : (i : ℕ) → LeastOf e n i → Told n

  tell : (n : ℕ) → Told n
  tell zero = none (λ i l. absurd (omega arith))
  tell (suc n) = subst Told (add-one n) (at (is_marked (e n)) refl (tell n))
    where
      at : (t : Bool) → is_marked (e n) ≡ t → Told n → Told (n + 1)
      at true here (none marked) = none (marked_next marked here)
      at false here (none marked) = some n (least_first marked here)
      at true here (some i least) = some i (least_kept least (λ un. absurd (true≢false (sym here ∙ un))))
      at false here (some i least) = weigh (dec_lt (e n).weight (e i).weight)
        where
          weigh : Dec ((e n).weight < (e i).weight) → Told (n + 1)
          weigh (yes less) = some n (least_lower least here less)
          weigh (no more) = some i (least_kept least (λ _. omega arith))

  module _ (n : ℕ) where
    abbrev lighter : ℕ → ℕ → Bool
    lighter i j = is_marked (e j) || leb (e i).weight (e j).weight

    -- what the test of a round says
    weighs : (i : ℕ) → is_marked (e i) ≡ false → ((j : ℕ) → j < n → is_marked (e j) ≡ false → (e i).weight ≤ (e j).weight) → weighs_least e n i ≡ true
    unfolding weighs_least
    weighs i un most = (and-eq-true_iff (not (is_marked (e i))) (all n (lighter i))).1 (ap not un, all_yes_lem n (lighter i) (λ j l. at j l (is_marked (e j)) refl))
      where
        at : (j : ℕ) → j < n → (t : Bool) → is_marked (e j) ≡ t → (t || leb (e i).weight (e j).weight) ≡ true
        at j l true here = refl
        at j l false here = le-leb (e i).weight (e j).weight (most j l here)

    weighed : (i : ℕ) → weighs_least e n i ≡ true
        → (is_marked (e i) ≡ false) × ((j : ℕ) → j < n → is_marked (e j) ≡ false → (e i).weight ≤ (e j).weight)
    unfolding weighs_least
    weighed i h =
        let both = (and-eq-true_iff (not (is_marked (e i))) (all n (lighter i))).0 h in
        (not-true (is_marked (e i)) both.0, λ j l un. leb-true (e i).weight (e j).weight (ap (λ (t : Bool). t || leb (e i).weight (e j).weight) (sym un) ∙ all_true n (lighter i) both.1 j l))

    -- the definition's round is the least's
    round_least : {i : ℕ} → LeastOf e n i → LeastOf e n (least_round e n)
    unfolding least_round
    round_least {i} least =
        let first = first_least n (weighs_least e n) (any_found n (weighs_least e n) i least.below (weighs i least.unmarked least.at_most)) in
        let here = weighed (least_round e n) first.here in
        record {
          below = first.below;
          unmarked = here.0;
          at_most = here.1;
          no_lower = λ j l un. lower j l un first here (dec_lt (e (least_round e n)).weight (e j).weight);
        }
      where
        lower : (j : ℕ) → j < least_round e n → is_marked (e j) ≡ false → First n (weighs_least e n) (least_round e n)
            → (is_marked (e (least_round e n)) ≡ false) × ((j : ℕ) → j < n → is_marked (e j) ≡ false → (e (least_round e n)).weight ≤ (e j).weight)
            → Dec ((e (least_round e n)).weight < (e j).weight) → (e (least_round e n)).weight < (e j).weight
        lower j l un first here (yes less) = less
        lower j l un first here (no more) =
            absurd (false≢true (sym (first.earlier j l) ∙ weighs j un (λ k h other. omega (arith, here.1 k h other))))

    pub least_told : {i : ℕ} → LeastOf e n i → least_numbers e n ≡ 1 ∷ (e i).weight ∷ i ∷ []
    unfolding least_numbers
    least_told {i} least =
        ap (λ (t : Bool). cond t (0 ∷ 0 ∷ 0 ∷ []) (1 ∷ (e (least_round e n)).weight ∷ least_round e n ∷ []))
        (all_fails n (λ i. is_marked (e i)) i least.below least.unmarked)
        ∙ ap (λ (k : ℕ). 1 ∷ (e k).weight ∷ k ∷ []) (least_one (round_least least) least)

    pub none_told : AllMarked n → least_numbers e n ≡ 0 ∷ 0 ∷ 0 ∷ []
    unfolding least_numbers
    none_told marked =
        ap (λ (t : Bool). cond t (0 ∷ 0 ∷ 0 ∷ []) (1 ∷ (e (least_round e n)).weight ∷ least_round e n ∷ []))
        (all_yes_lem n (λ i. is_marked (e i)) marked)

    some_least : (i : ℕ) → i < n → is_marked (e i) ≡ false → LeastOf e n (least_round e n)
    some_least i l un = at (tell n)
      where
        at : Told n → LeastOf e n (least_round e n)
        at (none marked) = absurd (true≢false (sym (marked i l) ∙ un))
        at (some j least) = round_least least

    pub three_numbers : length (least_numbers e n) ≡ 3
    unfolding least_numbers
    three_numbers = at (all n (λ i. is_marked (e i)))
      where
        at : (t : Bool) → length (cond t (0 ∷ 0 ∷ 0 ∷ []) (1 ∷ (e (least_round e n)).weight ∷ least_round e n ∷ [])) ≡ 3
        at true = refl
        at false = refl

pub least_is_right : LeastIsRight
least_is_right e n = record {
  none = none_told e n;
  one = some_least e n;
  told = λ i l un. least_told e n (some_least e n i l un);
}
