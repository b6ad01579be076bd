-- Rows of values, and the clause of a row: it fails in just that row. Assumes nothing.
use mathlib.Core.Path.{◌≡◌, refl, sym, ap, ap₂, ◌∙◌}
use mathlib.Core.Bool.{Bool, true, false, not, ◌&&◌, ◌||◌, cond, xor}
use mathlib.Core.List.{List, [], ◌∷◌, ◌++◌, map}
use Prim.Native.Nat.{ℕ, suc, ◌+◌, ◌*◌, ◌%◌, ◌^◌, ◌≤◌, ◌<◌}
use native.Mathlib.Nat.{mod-one, mod-eq_of_lt}
use native.Mathlib.Omega.{arith}
use lib.Dec.{eqb}
use lib.ListN.{length, length-append}
use lib.IntN.{ℤ, neg_ℤ}
use lib.Pow.{low as low_part, high as high_part}
use Rattle.words.specs.Words.{value, bit}
use Rattle.words.proofs.Bits.{value_lt, value_inj, value_bit, bit_mod, eqb_bit, xor_comm}
use Rattle.cnf.specs.Formulas.{holds, some_holds}
use Rattle.cnf.specs.Gates.{Input, known, literal, literals, clause_of, values_in}
use Rattle.cnf.proofs.Clauses.{Nonzero, Every, holds_signed}

-- ---- the row of the literals' own values

-- the row has the literals' values
abbrev pub Own : (ℕ → Bool) → List ℤ → ℕ → Type 0
Own v [] row = Unit {0}
Own v (l ∷ ls) row = (bit row (length ls) ≡ holds v l) × Own v ls row

unfoldable pub own_row : (ℕ → Bool) → List ℤ → ℕ
own_row v [] = 0
own_row v (l ∷ ls) = value (holds v l) * 2 ^ length ls + own_row v ls

pub own_row_lt : (v : ℕ → Bool) (ls : List ℤ) → own_row v ls < 2 ^ length ls
unfolding own_row
own_row_lt v [] = omega arith
own_row_lt v (l ∷ ls) = at (holds v l) (own_row_lt v ls)
  where
    at : (b : Bool) → own_row v ls < 2 ^ length ls → value b * 2 ^ length ls + own_row v ls < 2 ^ suc (length ls)
    at true h = omega arith
    at false h = omega arith

-- bits below k do not see what is above
bit_under : (h k x i : ℕ) → x < 2 ^ k → i < k → bit (h * 2 ^ k + x) i ≡ bit x i
bit_under h k x i lt l = sym (bit_mod (h * 2 ^ k + x) k i l) ∙ ap (λ (z : ℕ). bit z i) (low_part h k lt)

bit_over : (b : Bool) (k x : ℕ) → x < 2 ^ k → bit (value b * 2 ^ k + x) k ≡ b
bit_over b k x lt =
    value_inj (bit (value b * 2 ^ k + x) k) b
    (value_bit (value b * 2 ^ k + x) k ∙ ap (λ (z : ℕ). z % 2) (high_part (value b) k lt) ∙ mod-eq_of_lt (value_lt b))

own_under : (v : ℕ → Bool) (h k x : ℕ) → x < 2 ^ k → (ls : List ℤ) → length ls ≤ k → Own v ls x → Own v ls (h * 2 ^ k + x)
own_under v h k x lt [] le o = tt
own_under v h k x lt (l ∷ ls) le o = (bit_under h k x (length ls) lt (omega arith) ∙ o.0, own_under v h k x lt ls (omega arith) o.1)

pub own_row_lem : (v : ℕ → Bool) (ls : List ℤ) → Own v ls (own_row v ls)
unfolding own_row
own_row_lem v [] = tt
own_row_lem v (l ∷ ls) = (
  bit_over (holds v l) (length ls) (own_row v ls) (own_row_lt v ls),
  own_under v (value (holds v l)) (length ls) (own_row v ls) (own_row_lt v ls) ls (omega arith) (own_row_lem v ls),
)

-- ---- the clause of a row

-- a row's clause has no true literal exactly where the row is that of the literals' values
pub clause_value : (v : ℕ → Bool) (ls : List ℤ) (own : ℕ) → Every Nonzero ls → Own v ls own → (row : ℕ)
    → some_holds v (clause_of ls row) ≡ not (eqb (row % 2 ^ length ls) (own % 2 ^ length ls))
unfolding some_holds clause_of
clause_value v [] own h o row = ap₂ (λ (x y : ℕ). not (eqb x y)) (sym (mod-one row)) (sym (mod-one own))
clause_value v (l ∷ ls) own h o row =
    ap₂ ◌||◌
    (holds_signed v (bit row (length ls)) l h.0
    ∙ ap (λ (b : Bool). xor b (bit row (length ls))) (sym o.0)
    ∙ xor_comm (bit own (length ls)) (bit row (length ls)))
    (clause_value v ls own h.1 o.1 row)
    ∙ at (xor (bit row (length ls)) (bit own (length ls))) (eqb (row % 2 ^ length ls) (own % 2 ^ length ls))
    ∙ ap not (sym (eqb_bit row own (length ls)))
  where
    at : (a b : Bool) → (a || not b) ≡ not (not a && b)
    at true b = refl
    at false b = refl

pub length_clause : (ls : List ℤ) (row : ℕ) → length (clause_of ls row) ≡ length ls
unfolding clause_of
length_clause [] row = refl
length_clause (l ∷ ls) row = ap suc (length_clause ls row)

pub every_clause : (P : ℤ → Type 0) → ((l : ℤ) → P l → P (neg_ℤ l)) → (ls : List ℤ) → Every P ls → (row : ℕ)
    → Every P (clause_of ls row)
unfolding clause_of
every_clause P neg [] h row = tt
every_clause P neg (l ∷ ls) h row = (at (bit row (length ls)), every_clause P neg ls h.1 row)
  where
    at : (b : Bool) → P (cond b (neg_ℤ l) l)
    at true = neg l h.0
    at false = h.0

-- ---- inputs

unfoldable pub input_value : (ℕ → Bool) → Input → Bool
input_value v (known b) = b
input_value v (literal l) = holds v l

abbrev pub EveryInput : (ℤ → Type 0) → List Input → Type 0
EveryInput P [] = Unit {0}
EveryInput P (known b ∷ is) = EveryInput P is
EveryInput P (literal l ∷ is) = P l × EveryInput P is

pub every_literal : (P : ℤ → Type 0) (is : List Input) (out : ℤ) → EveryInput P is → P out → Every P (literals is ++ (out ∷ []))
unfolding literals
every_literal P [] out h k = (k, tt)
every_literal P (known b ∷ is) out h k = every_literal P is out h k
every_literal P (literal l ∷ is) out h k = (h.0, every_literal P is out h.1 k)

-- the row of the literals' values has the inputs' values, and the output's as lowest bit
pub own_values : (v : ℕ → Bool) (is : List Input) (out : ℤ) (own : ℕ) → Own v (literals is ++ (out ∷ [])) own
    → values_in is own ≡ map (input_value v) is
unfolding literals values_in input_value
own_values v [] out own o = refl
own_values v (known b ∷ is) out own o = ap (λ (bs : List Bool). b ∷ bs) (own_values v is out own o)
own_values v (literal l ∷ is) out own o =
    ap₂ (λ (b : Bool) (bs : List Bool). b ∷ bs)
    (ap (bit own) (sym (length-append (literals is) (out ∷ []))) ∙ o.0)
    (own_values v is out own o.1)

pub own_output : (v : ℕ → Bool) (is : List Input) (out : ℤ) (own : ℕ) → Own v (literals is ++ (out ∷ [])) own
    → bit own 0 ≡ holds v out
unfolding literals
own_output v [] out own o = o.0
own_output v (known b ∷ is) out own o = own_output v is out own o
own_output v (literal l ∷ is) out own o = own_output v is out own o.1
