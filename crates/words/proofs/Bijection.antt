-- Two ranges of numbers and a test on each: if two maps lead what passes the one to what passes the other and back, equally many
-- pass. So do equally many pairs, if such maps rename one of the pair.
use mathlib.Core.Path.{◌≡◌, refl, sym, ap, subst, ◌∙◌}
use mathlib.Core.Bool.{Bool, true, false, ◌&&◌, and-eq-true_iff}
use Prim.Native.Nat.{ℕ, zero, suc, ◌+◌, ◌<◌}
use native.Mathlib.Decide.{dec_lt}
use native.Mathlib.Omega.{arith}
use borrow.Author.Tests.{eqb-true, eq-eqb, ne_eqb}
use lib.Dec.{eqb}
use Rattle.words.specs.Words.{value}
use Rattle.words.specs.Below.{count, total}
use Rattle.words.proofs.TruthTables.{same_test}
use Rattle.words.proofs.Below.{count_cong, count_none, total_cong, exchange}
use Rattle.words.proofs.LowBits.{count_total}

-- f leads what passes p below a to what passes q below b, and g leads it back
pub record Leads (a b : ℕ) (p q : ℕ → Bool) (f g : ℕ → ℕ) : Type 0 where
  pub below : (x : ℕ) → x < a → p x ≡ true → f x < b
  pub passes : (x : ℕ) → x < a → p x ≡ true → q (f x) ≡ true
  pub back : (x : ℕ) → x < a → p x ≡ true → g (f x) ≡ x

-- a number below the bound is there once
count_once : (b y : ℕ) → y < b → count b (λ z. eqb y z) ≡ 1
unfolding count
count_once zero y h = absurd (omega arith)
count_once (suc b) y h = at (dec_lt y b) (count_once b y)
  where
    at : Dec (y < b) → (y < b → count b (λ z. eqb y z) ≡ 1) → count b (λ z. eqb y z) + value (eqb y b) ≡ 1
    at (yes less) once = rw (once less, ne_eqb y b (λ e. omega arith))
    at (no more) once =
        rw (count_none b (λ z. eqb y z) (λ z l. ne_eqb y z (λ e. omega arith)), eq-eqb y b (omega arith))

-- pairs, counted for each first number or for each second
by_second : (a b : ℕ) (p : ℕ → ℕ → Bool) → total a (λ x. count b (p x)) ≡ total b (λ y. count a (λ x. p x y))
by_second a b p =
    total_cong a (λ x. count b (p x)) (λ x. total b (λ y. value (p x y))) (λ x _. count_total b (p x))
    ∙ exchange a b (λ x y. value (p x y))
    ∙ total_cong b (λ y. total a (λ x. value (p x y))) (λ y. count a (λ x. p x y)) (λ y _. sym (count_total a (λ x. p x y)))

module _ (a b : ℕ) (p q : ℕ → Bool) (f g : ℕ → ℕ) where
  -- each number that passes p meets one number below b
  meets_one : Leads a b p q f g → (x : ℕ) → x < a → value (p x) ≡ count b (λ y. p x && eqb (f x) y)
  meets_one to x l = at (p x) refl
    where
      at : (s : Bool) → p x ≡ s → value s ≡ count b (λ y. s && eqb (f x) y)
      at true e = sym (count_once b (f x) (to.below x l e))
      at false e = sym (count_none b (λ y. false) (λ y _. refl))

  meets : Leads a b p q f g → (x y : ℕ) → x < a → (p x && eqb (f x) y) ≡ true → (q y && eqb (g y) x) ≡ true
  meets to x y l e = (and-eq-true_iff (q y) (eqb (g y) x)).1 (
    subst (λ (z : ℕ). q z ≡ true) same (to.passes x l pass),
    eq-eqb (g y) x (ap g (sym same) ∙ to.back x l pass),
  )
    where
      pass : p x ≡ true
      pass = ((and-eq-true_iff (p x) (eqb (f x) y)).0 e).0

      same : f x ≡ y
      same = eqb-true (f x) y ((and-eq-true_iff (p x) (eqb (f x) y)).0 e).1

-- the pairs that meet, counted from either side
pub equal_counts : {a b : ℕ} {p q : ℕ → Bool} {f g : ℕ → ℕ} → Leads a b p q f g → Leads b a q p g f → count a p ≡ count b q
equal_counts {a} {b} {p} {q} {f} {g} to from =
    count_total a p
    ∙ total_cong a (λ x. value (p x)) (λ x. count b (λ y. p x && eqb (f x) y)) (meets_one a b p q f g to)
    ∙ by_second a b (λ x y. p x && eqb (f x) y)
    ∙ total_cong b (λ y. count a (λ x. p x && eqb (f x) y)) (λ y. value (q y)) column
    ∙ sym (count_total b q)
  where
    column : (y : ℕ) → y < b → count a (λ x. p x && eqb (f x) y) ≡ value (q y)
    column y m =
        count_cong a (λ x. p x && eqb (f x) y) (λ x. q y && eqb (g y) x)
        (λ x l. same_test (p x && eqb (f x) y) (q y && eqb (g y) x) (meets a b p q f g to x y l) (meets b a q p g f from y x m))
        ∙ sym (meets_one b a q p g f from y m)

-- Renaming one of a pair, one to one: the first, by a map that may depend on the second. So a subtraction of words is met by as many
-- pairs as the addition that undoes it.
pub equal_pairs : {a a' b : ℕ} {p q : ℕ → ℕ → Bool} {f g : ℕ → ℕ → ℕ}
    → ((y : ℕ) → y < b → Leads a a' (λ x. p x y) (λ x. q x y) (f y) (g y))
    → ((y : ℕ) → y < b → Leads a' a (λ x. q x y) (λ x. p x y) (g y) (f y))
    → total a (λ x. count b (p x)) ≡ total a' (λ x. count b (q x))
equal_pairs {a} {a'} {b} {p} {q} to from =
    by_second a b p
    ∙ total_cong b (λ y. count a (λ x. p x y)) (λ y. count a' (λ x. q x y)) (λ y l. equal_counts (to y l) (from y l))
    ∙ sym (by_second a' b q)
