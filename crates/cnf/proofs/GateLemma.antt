-- What satisfies a gate's clauses, how many there are, and that its output occurs in them. Assumes nothing.
use mathlib.Core.Path.{◌≡◌, refl, sym, ap, ap₂, ◌∙◌}
use mathlib.Core.Logic.{◌↔◌}
use mathlib.Core.Bool.{Bool, true, false, not, cond, xor, and-true, true≢false}
use mathlib.Core.List.{List, [], ◌∷◌, ◌++◌, map}
use Prim.Native.Nat.{ℕ, zero, ◌+◌, ◌*◌, ◌%◌, ◌^◌, ◌≤◌, ◌<◌}
use native.Mathlib.Nat.{mod-eq_of_lt, mul-add}
use native.Mathlib.Numerals.{add-one}
use native.Mathlib.Omega.{arith}
use borrow.Author.Tests.{eq-eqb, ne_eqb}
use lib.Dec.{eqb}
use lib.ListN.{length, length-append}
use lib.IntN.{ℤ, pos, neg_ℤ}
use lib.Pow.{pow_pos}
use Rattle.words.specs.Words.{value, bit}
use Rattle.words.specs.Below.{concat, total}
use Rattle.words.proofs.Bits.{value_inj}
use Rattle.words.proofs.Below.{total_cong, total_add, total_same, length_concat}
use Rattle.words.proofs.LowBits.{low, bit_low_zero, bit_low_suc, total_low}
use Rattle.cnf.specs.Formulas.{holds, some_holds, all_hold, numbers}
use Rattle.cnf.specs.Gates.{Input, known, literal, literals, clause_of, values_in, wrong, row_clauses, gate}
use Rattle.cnf.proofs.Clauses.{Nonzero, Every, EveryIn, every_in_concat, all_hold_concat, numbers_concat, Some, SomeIn, some_left, some_right, some_in_concat}
use Rattle.cnf.proofs.Rows.{own_row, own_row_lt, own_row_lem, clause_value, length_clause, every_clause, input_value, EveryInput, every_literal, own_values, own_output}

-- ---- the gate lemma

xor_false : (a b : Bool) → (xor a b ≡ false) ↔ (a ≡ b)
unfolding xor
xor_false true true = (λ h. refl, λ h. refl)
xor_false false false = (λ h. refl, λ h. refl)
xor_false true false = (λ h. h, λ h. h)
xor_false false true = (λ h. sym h, λ h. sym h)

-- a row's clauses hold if its output is right or its clause has a true literal
row_holds : (v : ℕ → Bool) (w : Bool) (c : List ℤ) → (w ≡ true → some_holds v c ≡ true) → all_hold v (cond w (c ∷ []) []) ≡ true
unfolding all_hold
row_holds v true c h = and-true (some_holds v c) ∙ h refl
row_holds v false c h = refl

row_right : (v : ℕ → Bool) (w : Bool) (c : List ℤ) → all_hold v (cond w (c ∷ []) []) ≡ true → some_holds v c ≡ false → w ≡ false
unfolding all_hold
row_right v true c h none = sym h ∙ and-true (some_holds v c) ∙ none
row_right v false c h none = refl

module _ (v : ℕ → Bool) (f : List Bool → Bool) (is : List Input) (out : ℤ) (h : EveryInput Nonzero is) (k : Nonzero out) where
  abbrev lits : List ℤ
  lits = literals is ++ (out ∷ [])

  -- the row of the literals' values
  abbrev own : ℕ
  own = own_row v lits

  many : length lits ≡ length (literals is) + 1
  many = length-append (literals is) (out ∷ [])

  own_lt : own < 2 ^ (length (literals is) + 1)
  own_lt = rw (← many) (own_row_lt v lits)

  wrong_own : wrong f is own ≡ xor (holds v out) (f (map (input_value v) is))
  unfolding wrong
  wrong_own = ap₂ xor (own_output v is out own (own_row_lem v lits)) (ap f (own_values v is out own (own_row_lem v lits)))

  clause_at : (row : ℕ) → row < 2 ^ (length (literals is) + 1) → some_holds v (clause_of lits row) ≡ not (eqb row own)
  clause_at row l =
      clause_value v lits own (every_literal Nonzero is out h k) (own_row_lem v lits) row
      ∙ ap (λ (n : ℕ). not (eqb (row % 2 ^ n) (own % 2 ^ n))) many
      ∙ ap₂ (λ (x y : ℕ). not (eqb x y)) (mod-eq_of_lt l) (mod-eq_of_lt own_lt)

  rows_hold : holds v out ≡ f (map (input_value v) is) → (row : ℕ) → row < 2 ^ (length (literals is) + 1)
      → all_hold v (row_clauses f is out row) ≡ true
  unfolding row_clauses
  rows_hold e row l = row_holds v (wrong f is row) (clause_of lits row) other
    where
      other : wrong f is row ≡ true → some_holds v (clause_of lits row) ≡ true
      other w = clause_at row l ∙ ap not (ne_eqb row own (λ same. true≢false (sym w ∙ ap (wrong f is) same ∙ wrong_own ∙ right)))
        where
          right : xor (holds v out) (f (map (input_value v) is)) ≡ false
          right = (xor_false (holds v out) (f (map (input_value v) is))).1 e

  own_right : all_hold v (row_clauses f is out own) ≡ true → holds v out ≡ f (map (input_value v) is)
  unfolding row_clauses
  own_right a =
      (xor_false (holds v out) (f (map (input_value v) is))).0
      (sym wrong_own ∙ row_right v (wrong f is own) (clause_of lits own) a (clause_at own own_lt ∙ ap not (eq-eqb own own refl)))

  -- THE GATE LEMMA, for every function and any number of inputs: the clauses hold exactly where the output is right
  pub gate_iff : (all_hold v (gate f is out) ≡ true) ↔ (holds v out ≡ f (map (input_value v) is))
  unfolding gate
  gate_iff = (
    λ a. own_right ((all_hold_concat v (2 ^ (length (literals is) + 1)) (row_clauses f is out)).0 a own own_lt),
    λ e. (all_hold_concat v (2 ^ (length (literals is) + 1)) (row_clauses f is out)).1 (rows_hold e),
  )

-- whatever holds of the inputs' literals and of the output, and of a literal negated too, holds of all literals in the clauses
pub every_gate : (P : ℤ → Type 0) → ((l : ℤ) → P l → P (neg_ℤ l)) → (f : List Bool → Bool) (is : List Input) (out : ℤ)
    → EveryInput P is → P out → EveryIn P (gate f is out)
unfolding gate row_clauses
every_gate P neg f is out h k =
    every_in_concat P (2 ^ (length (literals is) + 1)) (row_clauses f is out)
    (λ row l. at (wrong f is row) row (every_clause P neg (literals is ++ (out ∷ [])) (every_literal P is out h k) row))
  where
    at : (w : Bool) (row : ℕ) → Every P (clause_of (literals is ++ (out ∷ [])) row)
        → EveryIn P (cond w (clause_of (literals is ++ (out ∷ [])) row ∷ []) [])
    at true row e = (e, tt)
    at false row e = tt

-- ---- how many clauses, and how many numbers

-- a sum over the rows in which a row and the row with the other output give c together
total_pairs : (n c : ℕ) (g : ℕ → ℕ) → ((x : ℕ) → g (low false x) + g (low true x) ≡ c) → total (2 ^ (n + 1)) g ≡ c * 2 ^ n
total_pairs n c g h =
    ap (λ (m : ℕ). total (2 ^ m) g) (add-one n)
    ∙ total_low n g
    ∙ sym (total_add (2 ^ n) (λ x. g (low false x)) (λ x. g (low true x)))
    ∙ total_cong (2 ^ n) (λ x. g (low false x) + g (low true x)) (λ x. c) (λ x l. h x)
    ∙ total_same (2 ^ n) c

-- the output is no input
values_low : (is : List Input) (b c : Bool) (x : ℕ) → values_in is (low b x) ≡ values_in is (low c x)
unfolding values_in
values_low [] b c x = refl
values_low (known a ∷ is) b c x = ap (λ (bs : List Bool). a ∷ bs) (values_low is b c x)
values_low (literal l ∷ is) b c x =
    ap₂ (λ (a : Bool) (bs : List Bool). a ∷ bs)
    (ap (bit (low b x)) (add-one (length (literals is)))
    ∙ bit_low_suc b x (length (literals is))
    ∙ sym (bit_low_suc c x (length (literals is)))
    ∙ ap (bit (low c x)) (sym (add-one (length (literals is)))))
    (values_low is b c x)

-- one of two rows that differ in the output alone is wrong
one_wrong : (f : List Bool → Bool) (is : List Input) (x : ℕ) → value (wrong f is (low false x)) + value (wrong f is (low true x)) ≡ 1
unfolding wrong xor
one_wrong f is x =
    ap₂ (λ (a b : Bool). value (xor a (f (values_in is (low false x)))) + value (xor b (f (values_in is (low true x)))))
    (bit_low_zero false x) (bit_low_zero true x)
    ∙ ap (λ (bs : List Bool). value (xor false (f (values_in is (low false x)))) + value (xor true (f bs))) (values_low is true false x)
    ∙ at (f (values_in is (low false x)))
  where
    at : (b : Bool) → value (xor false b) + value (xor true b) ≡ 1
    at true = refl
    at false = refl

length_row : (w : Bool) (c : List ℤ) → length (cond w (c ∷ []) []) ≡ value w
length_row true c = refl
length_row false c = refl

length_numbers_row : (w : Bool) (c : List ℤ) → length (numbers (cond w (c ∷ []) [])) ≡ (length c + 1) * value w
unfolding numbers
length_numbers_row true c = rw length-append (omega arith)
length_numbers_row false c = omega arith

-- what a wrong row gives, each row that is wrong gives
module _ (f : List Bool → Bool) (is : List Input) (out : ℤ) where
  total_wrong : (c : ℕ) → total (2 ^ (length (literals is) + 1)) (λ row. c * value (wrong f is row)) ≡ c * 2 ^ length (literals is)
  total_wrong c = total_pairs (length (literals is)) c (λ row. c * value (wrong f is row)) pair
    where
      pair : (x : ℕ) → c * value (wrong f is (low false x)) + c * value (wrong f is (low true x)) ≡ c
      pair x =
          sym (mul-add c (value (wrong f is (low false x))) (value (wrong f is (low true x))))
          ∙ ap (λ (n : ℕ). c * n) (one_wrong f is x)
          ∙ omega arith

  pub length_gate : length (gate f is out) ≡ 2 ^ length (literals is)
  unfolding gate row_clauses
  length_gate =
      length_concat (2 ^ (length (literals is) + 1)) (row_clauses f is out)
      ∙ total_cong (2 ^ (length (literals is) + 1)) (λ row. length (row_clauses f is out row)) (λ row. 1 * value (wrong f is row)) row_length
      ∙ total_wrong 1
      ∙ omega arith
    where
      row_length : (row : ℕ) → row < 2 ^ (length (literals is) + 1) → length (row_clauses f is out row) ≡ 1 * value (wrong f is row)
      row_length row l = omega (arith, length_row (wrong f is row) (clause_of (literals is ++ (out ∷ [])) row))

  pub length_numbers_gate : length (numbers (gate f is out)) ≡ (length (literals is) + 2) * 2 ^ length (literals is)
  unfolding gate row_clauses
  length_numbers_gate =
      ap length (sym (numbers_concat (2 ^ (length (literals is) + 1)) (row_clauses f is out)))
      ∙ length_concat (2 ^ (length (literals is) + 1)) (λ row. numbers (row_clauses f is out row))
      ∙ total_cong (2 ^ (length (literals is) + 1)) (λ row. length (numbers (row_clauses f is out row)))
      (λ row. (length (literals is) + 2) * value (wrong f is row)) row_length
      ∙ total_wrong (length (literals is) + 2)
    where
      many : (row : ℕ) → length (clause_of (literals is ++ (out ∷ [])) row) + 1 ≡ length (literals is) + 2
      many row = omega (arith, length_clause (literals is ++ (out ∷ [])) row, length-append (literals is) (out ∷ []))

      row_length : (row : ℕ) → row < 2 ^ (length (literals is) + 1)
          → length (numbers (row_clauses f is out row)) ≡ (length (literals is) + 2) * value (wrong f is row)
      row_length row l =
          length_numbers_row (wrong f is row) (clause_of (literals is ++ (out ∷ [])) row)
          ∙ ap (λ (n : ℕ). n * value (wrong f is row)) (many row)

-- ---- the output occurs

-- the last literal of a row's clause is the output's, as it is or negated
some_clause : (P : ℤ → Type 0) → ((l : ℤ) → P l → P (neg_ℤ l)) → (ls : List ℤ) (out : ℤ) (row : ℕ) → P out
    → Some P (clause_of (ls ++ (out ∷ [])) row)
unfolding clause_of
some_clause P neg [] out row h = (0, omega arith, at (bit row 0))
  where
    at : (b : Bool) → P (cond b (neg_ℤ out) out)
    at true = neg out h
    at false = h
some_clause P neg (l ∷ ls) out row h =
    some_right P (cond (bit row (length (ls ++ (out ∷ [])))) (neg_ℤ l) l ∷ []) (clause_of (ls ++ (out ∷ [])) row)
    (some_clause P neg ls out row h)

-- of the first two rows one is wrong
wrong_row : (f : List Bool → Bool) (is : List Input) → (row : ℕ) × (row < 2) × (wrong f is row ≡ true)
unfolding low
wrong_row f is = at (wrong f is (low false 0)) refl
  where
    at : (b : Bool) → wrong f is (low false 0) ≡ b → (row : ℕ) × (row < 2) × (wrong f is row ≡ true)
    at true e = (0, omega arith, e)
    at false e = (1, omega arith, value_inj (wrong f is (low true 0)) true (omega (arith, one_wrong f is 0, ap value e)))

-- whatever holds of the output, and of a literal negated too, holds of a number in the clauses
pub some_gate : (P : ℤ → Type 0) → ((l : ℤ) → P l → P (neg_ℤ l)) → (f : List Bool → Bool) (is : List Input) (out : ℤ) → P out
    → SomeIn P (gate f is out)
unfolding gate row_clauses numbers
some_gate P neg f is out h = at (wrong_row f is)
  where
    first_two : 2 ≤ 2 ^ (length (literals is) + 1)
    first_two = rw (add-one (length (literals is))) (omega (arith, pow_pos (length (literals is))))

    row_gives : (w : Bool) (c : List ℤ) → w ≡ true → Some P c → SomeIn P (cond w (c ∷ []) [])
    row_gives true c e s = some_left P c (pos zero ∷ []) s
    row_gives false c e s = absurd (true≢false (sym e))

    at : (row : ℕ) × (row < 2) × (wrong f is row ≡ true)
        → SomeIn P (concat (2 ^ (length (literals is) + 1)) (row_clauses f is out))
    at (row, l, e) =
        some_in_concat P (2 ^ (length (literals is) + 1)) (row_clauses f is out) row (omega (arith, first_two))
        (row_gives (wrong f is row) (clause_of (literals is ++ (out ∷ [])) row) e (some_clause P neg (literals is) out row h))
