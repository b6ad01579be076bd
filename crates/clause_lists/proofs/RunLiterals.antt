-- The literals in a run's clauses: the bits of the words that the line names, and its carries.
use mathlib.Core.Path.{◌≡◌, refl, sym, ap, subst}
use mathlib.Core.Bool.{Bool, true, false, cond}
use mathlib.Core.List.{List, [], ◌∷◌, ◌++◌}
use Prim.Native.Nat.{ℕ, zero, suc, ◌+◌, ◌-◌, ◌<◌}
use native.Mathlib.Nat.{mod-lt}
use native.Mathlib.Numerals.{add-one}
use native.Mathlib.Omega.{arith}
use borrow.Author.Tests.{ltb-true}
use lib.Dec.{ltb}
use lib.IntN.{ℤ, neg_ℤ}
use Rattle.trail.specs.declared.Line.{Line}
use Rattle.trail.specs.Kinds.{Kind, kind_of, uses_second, uses_constant}
use Rattle.trail.specs.Kinds.Kind.{xorWords, xorConstant, rotatesLeft, rotatesRight, addWords, addConstant, shiftsLeft, shiftsRight, subtractWords, unknown}
use Rattle.words.specs.Words.{bit}
use Rattle.cnf.specs.Gates.{Input, gate}
use Rattle.cnf.specs.Gates.Input.{known, literal}
use Rattle.cnf.proofs.Clauses.{EveryIn, every_in_append, every_in_concat}
use Rattle.cnf.proofs.Rows.{EveryInput}
use Rattle.cnf.proofs.GateLemma.{every_gate}
use Rattle.clause_lists.specs.Kinds.{Taken, Carries, some_carries, gates, has_carries, taken_input, other_inputs, carry_inputs, parity}
use Rattle.clause_lists.specs.Kinds.Taken.{bit_at, no_bit}
use Rattle.clause_lists.specs.Kinds.Carries.{none, made}
use Rattle.clause_lists.specs.Lists.{inputs, next_clauses, bit_clauses, run_clauses}

-- a bit that is taken is one of the word's
abbrev pub Within : ℕ → Taken → Type 0
Within n (bit_at p) = p < n
Within n no_bit = Unit {0}

pub taken_within : (q : Kind) (n r i : ℕ) → i < n → Within n ((gates q).taken n r i)
taken_within xorWords n r i h = h
taken_within xorConstant n r i h = h
taken_within rotatesLeft n r i h = mod-lt _ (omega arith)
taken_within rotatesRight n r i h = mod-lt _ (omega arith)
taken_within addWords n r i h = h
taken_within addConstant n r i h = h
taken_within shiftsLeft n r i h = at (ltb i r)
  where
    at : (b : Bool) → Within n (cond b no_bit (bit_at (i - r)))
    at true = tt
    at false = omega arith
taken_within shiftsRight n r i h = at (ltb (i + r) n) refl
  where
    at : (b : Bool) → ltb (i + r) n ≡ b → Within n (cond b (bit_at (i + r)) no_bit)
    at true e = omega (arith, ltb-true (i + r) n e)
    at false e = tt
taken_within subtractWords n r i h = h
taken_within unknown n r i h = tt

-- P holds of each literal that a run of width n, making word j, may use
pub record Literals (P : ℤ → Type 0) (n j : ℕ) (l : Line) (word : ℕ → ℕ → ℤ) (carry : ℕ → ℤ) : Type 0 where
  pub result : (i : ℕ) → i < n → P (word j i)
  pub first : (i : ℕ) → i < n → P (word l.first i)
  pub second : uses_second (kind_of l.kind) ≡ true → (i : ℕ) → i < n → P (word l.second i)
  pub carries : has_carries (kind_of l.kind) ≡ true → (i : ℕ) → suc i < n → P (carry (suc i))

module _ {P : ℤ → Type 0} {n j : ℕ} {l : Line} {word : ℕ → ℕ → ℤ} {carry : ℕ → ℤ} (all : Literals P n j l word carry) where
  abbrev q : Kind
  q = kind_of l.kind

  pub every_input : (i : ℕ) → i < n → EveryInput P (inputs n j l word carry i)
  every_input i h =
      first ((gates q).taken n l.amount i) (taken_within q n l.amount i h) (other_inputs q l word i ++ enters)
      (other (uses_second q) refl (uses_constant q) enters (carried (gates q).carries refl i h))
    where
      enters : List Input
      enters = carry_inputs (gates q).carries carry i

      first : (p : Taken) → Within n p → (is : List Input) → EveryInput P is → EveryInput P (taken_input p (word l.first) ∷ is)
      first (bit_at p) w is rest = (all.first p w, rest)
      first no_bit w is rest = rest

      other : (second : Bool) → uses_second q ≡ second → (constant : Bool) (is : List Input) → EveryInput P is
          → EveryInput P (cond second (literal (word l.second i) ∷ []) (cond constant (known (bit l.constant i) ∷ []) []) ++ is)
      other true e constant is rest = (all.second e i h, rest)
      other false e true is rest = rest
      other false e false is rest = rest

      carried : (cs : Carries) → (gates q).carries ≡ cs → (i : ℕ) → i < n → EveryInput P (carry_inputs cs carry i)
      carried none e i h = tt
      carried (made next value) e zero h = tt
      carried (made next value) e (suc i) h = (all.carries (ap some_carries e) i h, tt)

  pub every_run : ((k : ℤ) → P k → P (neg_ℤ k)) → EveryIn P (run_clauses n j l word carry)
  unfolding run_clauses bit_clauses
  every_run neg =
      every_in_concat P n (bit_clauses n j l word carry)
      (λ i h.
      every_in_append P (gate parity (inputs n j l word carry i) (word j i)) _
      (every_gate P neg parity (inputs n j l word carry i) (word j i) (every_input i h) (all.result i h))
      (out (ltb (i + 1) n) _ (next (gates q).carries refl i h)))
    where
      next : (cs : Carries) → (gates q).carries ≡ cs → (i : ℕ) → i < n → ltb (i + 1) n ≡ true → EveryIn P (next_clauses n j l word carry cs i)
      next none e i h more = tt
      next (made f value) e i h more =
          every_gate P neg f (inputs n j l word carry i) (carry (i + 1)) (every_input i h)
          (subst (λ (z : ℕ). P (carry z)) (sym (add-one i)) (all.carries (ap some_carries e) i (omega (arith, ltb-true (i + 1) n more))))

      out : (b : Bool) (cs : List (List ℤ)) → (b ≡ true → EveryIn P cs) → EveryIn P (cond b cs [])
      out true cs h = h refl
      out false cs h = tt
