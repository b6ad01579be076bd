-- The outputs of a bit: which one a number names, and how many there are.
use Prim.Native.Nat.{ℕ, zero, suc, ◌+◌, ◌<◌}
use native.Mathlib.Omega.{arith}
use mathlib.Core.Path.{◌≡◌, refl, sym, subst}
use mathlib.Core.Bool.{Bool, true, false, ◌&&◌, cond}
use mathlib.Core.List.{List}
use borrow.Author.Tests.{lt-ltb, le-ltb}
use lib.Dec.{ltb}
use Rattle.trail.specs.Kinds.{kind_of}
use Rattle.clause_lists.specs.Kinds.{Carries, gates, has_carries}
use Rattle.clause_lists.specs.Kinds.Carries.{none, made}
use Rattle.run_literals.specs.declared.LineRun.{LineRun}
use Rattle.bit_gates.specs.Gates.{outputs_of, function_as, function_of}

-- output 0 and those after it
pub at_first : (P : ℕ → Type 0) (j : ℕ) → j ≡ 0 → P 0 → P j
at_first P j e p = subst P (sym e) p

pub at_later : (P : ℕ → Type 0) (j : ℕ) → (j ≡ 0 → ⊥) → ((k : ℕ) → P (suc k)) → P j
at_later P zero n p = absurd (n refl)
at_later P (suc k) n p = p k

-- what makes output 1 makes each later one
pub later_output : (r : LineRun) (P : (List Bool → Bool) → Type 0) (k : ℕ) → P (function_of r 1) → P (function_of r (suc k))
later_output r P k = at (gates (kind_of r.line.kind)).carries
  where
    at : (cs : Carries) → P (function_as cs 1) → P (function_as cs (suc k))
    at none p = p
    at (made next value) p = p

module _ (r : LineRun) (i : ℕ) where
  abbrev carries : Bool
  carries = has_carries (kind_of r.line.kind)

  -- ---- how many outputs

  pub none_goes_out : i + 1 ≡ r.width → 1 ≡ outputs_of r i
  none_goes_out e = rw (le-ltb (i + 1) r.width (omega arith))

  pub none_carried : carries ≡ false → 1 ≡ outputs_of r i
  none_carried e = rw e (at (ltb (i + 1) r.width))
    where
      at : (b : Bool) → ◌≡◌ {A = ℕ} 1 (cond (b && false) 2 1)
      at true = refl
      at false = refl

  pub one_carried : carries ≡ true → i < r.width → (i + 1 ≡ r.width → ⊥) → 2 ≡ outputs_of r i
  one_carried e less n = rw (e, lt-ltb (i + 1) r.width (omega arith))

  -- an output after the first is the next carry
  pub some_carried : (j : ℕ) → j < outputs_of r i → (j ≡ 0 → ⊥) → carries ≡ true
  some_carried j less n = at (ltb (i + 1) r.width) carries less
    where
      at : (b c : Bool) → j < cond (b && c) 2 1 → c ≡ true
      at true true l = refl
      at true false l = absurd (n (omega arith))
      at false c l = absurd (n (omega arith))
