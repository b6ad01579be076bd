-- Laws of the least number that passes a test.
use Prim.Native.Nat.{ℕ, zero, suc, ◌<◌}
use native.Mathlib.Omega.{arith}
use mathlib.Core.Path.{◌≡◌, refl, sym, ap, ◌∙◌}
use mathlib.Core.Bool.{Bool, true, false, not, ◌&&◌, ◌||◌, cond, false≢true}
use borrow.Author.Count.{below_none}
use Rattle.words.specs.Below.{all, any}
use Rattle.words.proofs.Below.{any_shift}
use Rattle.words.proofs.TruthTables.{by_table}
use Rattle.sheet_runs.specs.Outcome.{least}

-- k is the first number that passes, and below the bound
pub record First (b : ℕ) (p : ℕ → Bool) (k : ℕ) : Type 0 where
  pub below : k < b
  pub here : p k ≡ true
  pub earlier : (j : ℕ) → j < k → p j ≡ false

-- what holds at 0 and at each successor below the bound
from_zero : (P : ℕ → Type 0) (b : ℕ) → P 0 → ((j : ℕ) → j < b → P (suc j)) → (j : ℕ) → j < suc b → P j
from_zero P b start next zero l = start
from_zero P b start next (suc j) l = next j (omega arith)

-- the first number that passes is the least
pub least_first : (b : ℕ) (p : ℕ → Bool) (k : ℕ) → First b p k → least b p ≡ k
unfolding least
least_first zero p k f = absurd (omega (arith, f.below))
least_first (suc b) p zero f = ap (λ t. cond t 0 (suc (least b (λ k. p (suc k))))) f.here
least_first (suc b) p (suc k) f =
    ap (λ t. cond t 0 (suc (least b (λ k. p (suc k))))) (f.earlier 0 (omega arith))
    ∙ ap suc (least_first b (λ k. p (suc k)) k rest)
  where
    rest : First b (λ k. p (suc k)) k
    rest = record {
      below = omega (arith, f.below);
      here = f.here;
      earlier = λ j l. f.earlier (suc j) (omega arith);
    }

-- where some number passes, the least is the first that does
pub first_least : (b : ℕ) (p : ℕ → Bool) → any b p ≡ true → First b p (least b p)
unfolding least any
first_least zero p e = absurd (false≢true e)
first_least (suc b) p e = at (p 0) refl (first_least b (λ k. p (suc k))) (sym (any_shift b p) ∙ e)
  where
    at : (t : Bool) → p 0 ≡ t → (any b (λ k. p (suc k)) ≡ true → First b (λ k. p (suc k)) (least b (λ k. p (suc k))))
        → (p 0 || any b (λ k. p (suc k))) ≡ true → First (suc b) p (cond t 0 (suc (least b (λ k. p (suc k)))))
    at true here rest some = record { below = omega arith; here = here; earlier = below_none (λ j. p j ≡ false) }
    at false none rest some =
        let later = rest (ap (λ t. t || any b (λ k. p (suc k))) (sym none) ∙ some) in
        record {
          below = omega (arith, later.below);
          here = later.here;
          earlier = from_zero (λ j. p j ≡ false) (least b (λ k. p (suc k))) none later.earlier;
        }

not_both : (p q : Bool) → (not p || not q) ≡ not (p && q)
not_both = by_table 2 (λ p q. not p || not q) (λ p q. not (p && q)) refl

-- some number fails exactly where not all pass
pub some_fails : (b : ℕ) (p : ℕ → Bool) → any b (λ k. not (p k)) ≡ not (all b p)
unfolding any all
some_fails zero p = refl
some_fails (suc b) p = ap (λ t. t || not (p b)) (some_fails b p) ∙ not_both (all b p) (p b)
