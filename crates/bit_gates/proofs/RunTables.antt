-- The tables of a run's gates: a bit has at most three literals, and its constant's bit is the only known input that can be 1.
use Prim.Native.Nat.{ℕ, zero, suc, ◌+◌, ◌≤◌}
use native.Mathlib.Omega.{arith}
use mathlib.Core.Path.{◌≡◌, refl, sym, ap, subst, ◌∙◌}
use mathlib.Core.Logic.{◌≢◌}
use mathlib.Core.Bool.{Bool, true, false, cond}
use mathlib.Core.List.{List, [], ◌∷◌, ◌++◌}
use lib.IntN.{ℤ}
use lib.ListN.{length}
use Rattle.words.specs.Words.{bit, value}
use Rattle.words.proofs.Bits.{bit_none}
use Rattle.trail.specs.Kinds.{Kind, kind_of, uses_second, uses_constant}
use Rattle.trail.proofs.KindNumbers.{at_key, known_within}
use Rattle.cnf.specs.Gates.{Input, literals}
use Rattle.cnf.specs.Gates.Input.{known, literal}
use Rattle.clause_lists.specs.Kinds.{Taken, Carries, gates, has_carries, taken_input, carry_inputs, inputs_as, parity}
use Rattle.clause_lists.specs.Kinds.Taken.{bit_at, no_bit}
use Rattle.clause_lists.specs.Kinds.Carries.{none, made}
use Rattle.run_literals.specs.declared.LineRun.{LineRun}
use Rattle.run_literals.specs.Run.{word_in, carry_in}
use Rattle.bit_gates.specs.Gates.{others_in, carries_in, inputs_in, function_as, function_of, IsTable}
use Rattle.run_literals.proofs.KindRows.{no_constant, carries_add}
use Rattle.bit_gates.proofs.GateTables.{known_ones, parity_table, carry_table, less_lowest, less_above}
use Rattle.bit_gates.proofs.OutputCounts.{at_first, at_later}

-- ---- how many literals, and how many known ones, each input adds

module _ (bits : ℕ → ℤ) where
  taken_ones : (p : Taken) (is : List Input) → known_ones (taken_input p bits ∷ is) ≡ known_ones is
  unfolding known_ones
  taken_ones (bit_at p) is = refl
  taken_ones no_bit is = omega arith

  taken_few : (p : Taken) (is : List Input) → length (literals (taken_input p bits ∷ is)) ≤ 1 + length (literals is)
  unfolding literals
  taken_few (bit_at p) is = omega arith
  taken_few no_bit is = omega arith

  carried_ones : (cs : Carries) (i : ℕ) → known_ones (carry_inputs cs bits i) ≡ 0
  unfolding known_ones
  carried_ones none i = refl
  carried_ones (made next value) zero = refl
  carried_ones (made next value) (suc i) = refl

  carried_few : (cs : Carries) (i : ℕ) → length (literals (carry_inputs cs bits i)) ≤ 1
  unfolding literals
  carried_few none i = omega arith
  carried_few (made next value) zero = omega arith
  carried_few (made next value) (suc i) = omega arith

module _ (second : ℤ) (b : Bool) (is : List Input) where
  -- the second operand's bit or the constant's, which is 0 where there is none
  abbrev beside : Bool → Bool → List Input
  beside uses constant = cond uses (literal second ∷ []) (cond constant (known b ∷ []) [])

  other_ones : (uses constant : Bool) → (uses ≡ true → b ≡ false) → (constant ≡ false → b ≡ false)
      → known_ones (beside uses constant ++ is) ≡ value b + known_ones is
  unfolding known_ones
  other_ones true constant u c = rw (u refl) (omega arith)
  other_ones false true u c = refl
  other_ones false false u c = rw (c refl) (omega arith)

  other_few : (uses constant : Bool) → length (literals (beside uses constant ++ is)) ≤ 1 + length (literals is)
  unfolding literals
  other_few true constant = omega arith
  other_few false true = omega arith
  other_few false false = omega arith

-- ---- of a run

module _ (r : LineRun) (i : ℕ) where
  abbrev q : Kind
  q = kind_of r.line.kind

  abbrev b : Bool
  b = bit r.line.constant i

  abbrev second : ℤ
  second = word_in r r.line.second i

  unused : uses_constant q ≡ false → b ≡ false
  unused e = ap (λ (x : ℕ). bit x i) (r.proper.line_right.constant_unused e) ∙ bit_none i

  beside_second : uses_second q ≡ true → b ≡ false
  beside_second e =
      let within = known_within r.line.kind r.proper.line_right.kind_known in
      unused (no_constant r.line.kind within.0 within.1 e)

  known_ones_lem : known_ones (inputs_in r i) ≡ value b
  known_ones_lem =
      taken_ones (word_in r r.line.first) ((gates q).taken r.width r.line.amount i) (others_in r i ++ carries_in r i)
      ∙ other_ones second b (carries_in r i) (uses_second q) (uses_constant q) beside_second unused
      ∙ omega (arith, carried_ones (carry_in r) (gates q).carries i)

  few_literals : length (literals (inputs_in r i)) ≤ 3
  few_literals =
      omega (
        arith,
        taken_few (word_in r r.line.first) ((gates q).taken r.width r.line.amount i) (others_in r i ++ carries_in r i),
        other_few second b (carries_in r i) (uses_second q) (uses_constant q),
        carried_few (carry_in r) (gates q).carries i,
      )

  pub result_is : (one : Bool) → bit r.line.constant i ≡ one → IsTable parity (inputs_in r i) (cond one 0b0110_1001 0b1001_0110)
  result_is one e = parity_table (inputs_in r i) one (known_ones_lem ∙ ap value e) few_literals

  pub carry_is : has_carries q ≡ true → r.line.kind ≢ 9 → (one : Bool) → bit r.line.constant i ≡ one
      → IsTable (function_of r 1) (inputs_in r i) (cond one 0b1111_1110 0b1110_1000)
  carry_is some other one e =
      subst (λ (cs : Carries). IsTable (function_as cs 1) (inputs_in r i) (cond one 0b1111_1110 0b1110_1000))
      (sym (carries_add r.line.kind some other))
      (carry_table (inputs_in r i) one (known_ones_lem ∙ ap value e) few_literals)

-- ---- the borrow

abbrev IsNext : LineRun → ℕ → ℕ → Kind → Type 0
IsNext r i table q = IsTable (function_as (gates q).carries 1) (inputs_as q r.width r.line (word_in r) (carry_in r) i) table

pub borrow_lowest : (r : LineRun) (i : ℕ) → r.line.kind ≡ 9 → i ≡ 0 → IsNext r i 0b0010 (kind_of r.line.kind)
unfolding kind_of
borrow_lowest r i e lowest =
    at_key (IsNext r i 0b0010) e
    (at_first (λ i. IsNext r i 0b0010 (kind_of 9)) i lowest
    (less_lowest (word_in r r.line.first 0) (word_in r r.line.second 0)))

pub borrow_above : (r : LineRun) (i : ℕ) → r.line.kind ≡ 9 → (i ≡ 0 → ⊥) → IsNext r i 0b1000_1110 (kind_of r.line.kind)
unfolding kind_of
borrow_above r i e above =
    at_key (IsNext r i 0b1000_1110) e
    (at_later (λ i. IsNext r i 0b1000_1110 (kind_of 9)) i above
    (λ i. less_above (word_in r r.line.first (suc i)) (word_in r r.line.second (suc i)) (carry_in r (suc i))))
