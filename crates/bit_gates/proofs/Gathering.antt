-- Literals gathered in an array, one behind the other, and how they are those of a bit's inputs.
use Prim.Native.Nat.{ℕ, zero, suc, ◌+◌, ◌≤◌}
use native.Mathlib.Numerals.{add-one}
use native.Mathlib.Omega.{arith}
use mathlib.Core.Path.{◌≡◌, refl, sym, ap, subst, ◌∙◌}
use mathlib.Core.Bool.{Bool, true, false, cond, true≢false, false≢true}
use mathlib.Core.List.{List, [], ◌∷◌, ◌++◌, append-nil, append_assoc}
use lib.IntN.{ℤ}
use lib.ListN.{take, set, length-set}
use lib.Seq.{take-suc-set}
use Rattle.words.specs.Words.{bit}
use Rattle.trail.specs.Kinds.{Kind, kind_of, uses_second, uses_constant}
use Rattle.cnf.specs.Gates.{Input, literals}
use Rattle.cnf.specs.Gates.Input.{known, literal}
use Rattle.gate_writer.specs.Tables.{Small}
use Rattle.gate_writer.proofs.Signs.{same}
use Rattle.clause_lists.specs.Kinds.{Taken, is_filled, Carries, some_carries, gates, has_carries, taken_input, carry_inputs}
use Rattle.clause_lists.specs.Kinds.Taken.{bit_at, no_bit}
use Rattle.clause_lists.specs.Kinds.Carries.{none, made}
use Rattle.run_literals.specs.declared.LineRun.{LineRun}
use Rattle.bit_gates.specs.declared.inputs.Inputs.{Inputs}
use Rattle.run_literals.specs.Run.{word_in, carry_in, taken_in, CanNegate}
use Rattle.bit_gates.specs.Gates.{others_in, carries_in, inputs_in, gathered, Gathers}
use Rattle.run_literals.proofs.RunLiterals.{held, Made}

-- ---- one more

small_more : (ls : List ℤ) (l : ℤ) → Small ls → CanNegate l → Small (ls ++ (l ∷ []))
small_more [] l h k zero = k
small_more [] l h k (suc i) = omega arith
small_more (x ∷ ls) l h k zero = h zero
small_more (x ∷ ls) l h k (suc i) = small_more ls l (λ i. h (suc i)) k i

pub one_more : {n : ℕ} (g : Inputs) (l : ℤ) → n ≤ 3 → Gathers n (gathered g) g → CanNegate l
    → Gathers (g.count + 1) (gathered g ++ (l ∷ [])) (record { lits = set g.lits g.count (held l); count = g.count + 1 })
one_more g l few h k = record {
  count_most = omega arith;
  length_is = length-set g.lits g.count (held l) ∙ h.length_is;
  are =
      ap (λ (n : ℕ). take n (set g.lits g.count (held l))) (add-one g.count)
      ∙ take-suc-set g.lits g.count (held l) (omega (arith, h.count_most, h.length_is))
      ∙ ap (λ (z : ℤ). gathered g ++ (z ∷ [])) (same l k);
  small = small_more (gathered g) l h.small k;
}

pub gathers_as : {m n : ℕ} {ls ks : List ℤ} {g : Inputs} → m ≤ n → ls ≡ ks → Gathers m ls g → Gathers n ks g
gathers_as h e g = record {
  count_most = omega (arith, g.count_most);
  length_is = g.length_is;
  are = g.are ∙ e;
  small = subst Small e g.small;
}

-- what was there, where there is none more
pub none_more : {m n : ℕ} {ks : List ℤ} (g : Inputs) → m ≤ n → Gathers m (gathered g) g → ks ≡ [] → Gathers n (gathered g ++ ks) g
none_more g h there e = gathers_as h (sym (append-nil (gathered g)) ∙ ap (λ (ls : List ℤ). gathered g ++ ls) (sym e)) there

-- ---- the literals of a bit's inputs

literals_append : (is js : List Input) → literals (is ++ js) ≡ literals is ++ literals js
unfolding literals
literals_append [] js = refl
literals_append (known b ∷ is) js = literals_append is js
literals_append (literal l ∷ is) js = ap (λ (ls : List ℤ). l ∷ ls) (literals_append is js)

pub one_literal : {i : Input} {l m : ℤ} → i ≡ literal l → m ≡ l → m ∷ [] ≡ literals (i ∷ [])
unfolding literals
one_literal {m = m} e d = ap (λ (z : ℤ). z ∷ []) d ∙ ap (λ (j : Input). literals (j ∷ [])) (sym e)

-- a filled zero is no literal
pub no_literal : (p : Taken) (bits : ℕ → ℤ) → is_filled p ≡ true → literals (taken_input p bits ∷ []) ≡ []
unfolding literals
no_literal (bit_at i) bits e = absurd (false≢true e)
no_literal no_bit bits e = refl

module _ (carry : ℕ → ℤ) where
  some_enters : (cs : Carries) (i : ℕ) → some_carries cs ≡ true → (i ≡ 0 → ⊥) → carry i ∷ [] ≡ literals (carry_inputs cs carry i)
  unfolding literals
  some_enters none i e n = absurd (false≢true e)
  some_enters (made next value) zero e n = absurd (n refl)
  some_enters (made next value) (suc i) e n = refl

  -- no carry enters bit 0
  none_enters : (cs : Carries) → literals (carry_inputs cs carry 0) ≡ []
  unfolding literals
  none_enters none = refl
  none_enters (made next value) = refl

  none_made : (cs : Carries) (i : ℕ) → some_carries cs ≡ false → literals (carry_inputs cs carry i) ≡ []
  unfolding literals
  none_made none i e = refl
  none_made (made next value) i e = absurd (true≢false e)

module _ (r : LineRun) (i : ℕ) where
  abbrev q : Kind
  q = kind_of r.line.kind

  pub inputs_parts : (literals (taken_in r i ∷ []) ++ literals (others_in r i)) ++ literals (carries_in r i) ≡ literals (inputs_in r i)
  inputs_parts =
      append_assoc (literals (taken_in r i ∷ [])) (literals (others_in r i)) (literals (carries_in r i))
      ∙ ap (λ (ls : List ℤ). literals (taken_in r i ∷ []) ++ ls) (sym (literals_append (others_in r i) (carries_in r i)))
      ∙ sym (literals_append (taken_in r i ∷ []) (others_in r i ++ carries_in r i))

  pub second_literals : uses_second q ≡ true → {m : ℤ} → Made (word_in r r.line.second i) m → m ∷ [] ≡ literals (others_in r i)
  unfolding literals
  second_literals e h = ap (λ (z : ℤ). z ∷ []) h.0 ∙ rw e

  pub no_second : uses_second q ≡ false → literals (others_in r i) ≡ []
  unfolding literals
  no_second e = rw e (at (uses_constant q))
    where
      at : (c : Bool) → literals (cond c (known (bit r.line.constant i) ∷ []) []) ≡ []
      at true = refl
      at false = refl

  pub carry_literals : has_carries q ≡ true → (i ≡ 0 → ⊥) → {m : ℤ} → Made (carry_in r i) m → m ∷ [] ≡ literals (carries_in r i)
  carry_literals e n h = ap (λ (z : ℤ). z ∷ []) h.0 ∙ some_enters (carry_in r) (gates q).carries i e n

  pub none_lowest : i ≡ 0 → literals (carries_in r i) ≡ []
  none_lowest e = ap (λ (z : ℕ). literals (carries_in r z)) e ∙ none_enters (carry_in r) (gates q).carries

  pub no_carries : has_carries q ≡ false → literals (carries_in r i) ≡ []
  no_carries e = none_made (carry_in r) (gates q).carries i e
