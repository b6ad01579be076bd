-- A gate and its table. Assumes nothing.
use mathlib.Core.Path.{◌≡◌, refl, ap, ap₂, ◌∙◌, sym}
use mathlib.Core.Bool.{Bool, true, false, not, cond, xor}
use mathlib.Core.List.{List, [], ◌∷◌, ◌++◌, append_assoc}
use Prim.Native.Nat.{ℕ, zero, suc, ◌+◌, ◌*◌, ◌-◌, ◌/◌, ◌^◌, ◌≤◌, ◌<◌}
use native.Mathlib.Nat.{pow-suc}
use native.Mathlib.Omega.{arith}
use lib.ListN.{length, length-append}
use lib.IntN.{ℤ}
use Rattle.words.specs.Words.{value, bit}
use Rattle.words.specs.Below.{concat}
use Rattle.words.proofs.Below.{concat_cong}
use Rattle.words.proofs.LowBits.{low, low_half, bit_low_zero}
use Rattle.cnf.specs.Gates.{Input, literals, clause_of, values_in, wrong, row_clauses, gate}
use Rattle.gate_writer.specs.Tables.{table_row, table_gate}

-- a gate is the gate of its table
pub table_gate_lem : (f : List Bool → Bool) (is : List Input) (out : ℤ) (table : ℕ)
    → ((row : ℕ) → row < 2 ^ (length (literals is) + 1) → f (values_in is row) ≡ bit table (row / 2))
    → gate f is out ≡ table_gate (literals is ++ (out ∷ [])) table
unfolding gate row_clauses wrong table_gate table_row
table_gate_lem f is out table h =
    concat_cong (2 ^ (length (literals is) + 1)) (row_clauses f is out) (table_row lits table)
    (λ row l. ap (λ (b : Bool). cond (xor (bit row 0) b) (clause_of lits row ∷ []) []) (h row l))
    ∙ ap (λ (n : ℕ). concat (2 ^ n) (table_row lits table)) (sym (length-append (literals is) (out ∷ [])))
  where
    lits : List ℤ
    lits = literals is ++ (out ∷ [])

-- ---- of two rows that differ in the output alone just one gives a clause

concat_double : (b : ℕ) (f : ℕ → List (List ℤ)) → concat (b * 2) f ≡ concat b (λ x. f (low false x) ++ f (low true x))
unfolding concat low
concat_double zero f = refl
concat_double (suc b) f =
    ap (λ (z : ℕ). concat z f) twice
    ∙ append_assoc (concat (b * 2) f) (f (b * 2)) (f (suc (b * 2)))
    ∙ ap₂ ◌++◌ (concat_double b f) (ap₂ (λ (p q : ℕ). f p ++ f q) even odd)
  where
    twice : suc b * 2 ≡ suc (suc (b * 2))
    twice = omega arith

    even : b * 2 ≡ b * 2 + 0
    even = omega arith

    odd : suc (b * 2) ≡ b * 2 + 1
    odd = omega arith

module _ (lits : List ℤ) (table : ℕ) where
  -- the clause of the wrong one of the two rows that the inputs' row x begins
  abbrev pub wrong_clause : ℕ → List (List ℤ)
  wrong_clause x = clause_of lits (2 * x + value (not (bit table x))) ∷ []

  row_low : (b : Bool) (x : ℕ) → table_row lits table (low b x) ≡ cond (xor b (bit table x)) (clause_of lits (low b x) ∷ []) []
  unfolding table_row
  row_low b x =
      ap₂ (λ (c d : Bool). cond (xor c d) (clause_of lits (low b x) ∷ []) []) (bit_low_zero b x) (ap (bit table) (low_half b x))

  one_row : (x : ℕ) → table_row lits table (low false x) ++ table_row lits table (low true x) ≡ wrong_clause x
  unfolding low xor
  one_row x = ap₂ ◌++◌ (row_low false x) (row_low true x) ∙ at (bit table x)
    where
      at : (b : Bool)
          → cond (xor false b) (clause_of lits (low false x) ∷ []) [] ++ cond (xor true b) (clause_of lits (low true x) ∷ []) []
          ≡ clause_of lits (2 * x + value (not b)) ∷ []
      at true = ap (λ (row : ℕ). clause_of lits row ∷ []) (omega arith)
      at false = ap (λ (row : ℕ). clause_of lits row ∷ []) (omega arith)

  pub table_pairs : 1 ≤ length lits → table_gate lits table ≡ concat (2 ^ (length lits - 1)) wrong_clause
  unfolding table_gate
  table_pairs h =
      let e : length lits ≡ suc (length lits - 1) = omega arith in
      ap (λ (n : ℕ). concat (2 ^ n) (table_row lits table)) e
      ∙ ap (λ (n : ℕ). concat n (table_row lits table)) (pow-suc 2 (length lits - 1))
      ∙ concat_double (2 ^ (length lits - 1)) (table_row lits table)
      ∙ concat_cong (2 ^ (length lits - 1)) (λ x. table_row lits table (low false x) ++ table_row lits table (low true x)) wrong_clause (λ x _. one_row x)
