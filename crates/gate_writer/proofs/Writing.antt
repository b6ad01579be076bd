-- What the writer has written, literal by literal and row by row. Assumes nothing.
use mathlib.Core.Path.{◌≡◌, refl, sym, ap, ◌∙◌, subst}
use mathlib.Core.Bool.{cond}
use mathlib.Core.List.{List, [], ◌∷◌, ◌++◌}
use Prim.Native.Nat.{ℕ, zero, suc, ◌+◌, ◌*◌, ◌-◌, ◌%◌, ◌^◌, ◌≤◌, ◌<◌}
use native.Mathlib.Decide.{dec_lt}
use native.Mathlib.Nat.{one-mul, mod-eq_of_lt}
use native.Mathlib.Numerals.{add-one}
use native.Mathlib.Omega.{arith}
use lib.ListN.{length, drop, get_or, set, length-append, length-drop, drop_of_length-le}
use lib.Seq.{drop-cons}
use lib.IntN.{ℤ, pos, neg_ℤ}
use lib.Pow.{pow_mono}
use Rattle.words.specs.Words.{bit}
use Rattle.words.specs.Below.{concat}
use Rattle.buffers.specs.Overwrite.{Wrote}
use Rattle.buffers.proofs.Appending.{Left, left_start, left_take, left_fits, left_done, wrote_none, wrote_set, wrote_append}
use Rattle.cnf.specs.Formulas.{numbers}
use Rattle.cnf.specs.Gates.{clause_of}
use Rattle.cnf.proofs.Clauses.{numbers_append}
use Rattle.cnf.proofs.Rows.{length_clause}

-- ---- a row's clause, literal by literal

module _ (lits : List ℤ) (row : ℕ) where
  -- literal i with its sign in the row
  abbrev pub signed_at : ℕ → ℤ
  signed_at i = cond (bit row (length lits - 1 - i)) (neg_ℤ (get_or lits i (pos 0))) (get_or lits i (pos 0))

  -- what is to be written from literal i on
  abbrev pub clause_from : ℕ → List ℤ
  clause_from i = numbers (clause_of (drop i lits) row ∷ [])

  clause_next : (i : ℕ) → i < length lits → clause_from i ≡ (signed_at i ∷ []) ++ clause_from (i + 1)
  unfolding numbers clause_of
  clause_next i h =
      let e : length (drop (suc i) lits) ≡ length lits - 1 - i = length-drop (suc i) lits ∙ omega arith in
      rw (add-one, drop-cons lits i (pos 0), e)

  clause_end : (i : ℕ) → length lits ≤ i → clause_from i ≡ (pos 0 ∷ []) ++ []
  unfolding numbers clause_of
  clause_end i h = rw (drop_of_length-le lits {i = i} h)

  pub length_numbers_clause : length (numbers (clause_of lits row ∷ [])) ≡ length lits + 1
  unfolding numbers
  length_numbers_clause = length-append (clause_of lits row) (pos zero ∷ []) ∙ ap (λ (n : ℕ). n + 1) (length_clause lits row)

  module _ (at : ℕ) (all l m : List ℤ) where
    pub put_start : at + length (clause_from 0) ≤ length l → Left at (clause_from 0) l (at + 0) (clause_from 0) l
    put_start h =
        subst (λ (p : ℕ). Left at (clause_from 0) l p (clause_from 0) l) (omega arith) (left_start at (clause_from 0) l h)

    pub put_next : (i : ℕ) (x : ℤ) → i < length lits → Left at all l (at + i) (clause_from i) m → x ≡ signed_at i
        → Left at all l (at + (i + 1)) (clause_from (i + 1)) (set m (at + i) x)
    put_next i x k h e =
        let room : at + i < length m = omega (arith, left_fits (signed_at i ∷ []) (clause_from (i + 1)) (clause_next i k) h) in
        let w : Wrote (at + i) (signed_at i ∷ []) m (at + (i + 1)) (set m (at + i) x) =
        subst (λ (p : ℕ). Wrote (at + i) (signed_at i ∷ []) m p (set m (at + i) x)) (omega arith)
        (subst (λ (y : ℤ). Wrote (at + i) (signed_at i ∷ []) m (at + i + 1) (set m (at + i) y)) (sym e)
        (wrote_set (at + i) (signed_at i) m room)) in
        left_take (clause_next i k) h w

    pub put_end : (i : ℕ) → length lits ≤ i → Left at all l (at + i) (clause_from i) m
        → Wrote at all l (at + i + 1) (set m (at + i) (pos 0))
    put_end i k h =
        let room : at + i < length m = omega (arith, left_fits (pos 0 ∷ []) [] (clause_end i k) h) in
        left_done refl (left_take (clause_end i k) h (wrote_set (at + i) (pos 0) m room))

-- ---- the rows, one after the other

module _ (f : ℕ → List (List ℤ)) where
  numbers_next : (b : ℕ) → numbers (concat (suc b) f) ≡ numbers (concat b f) ++ numbers (f b)
  unfolding concat
  numbers_next b = numbers_append (concat b f) (f b)

  length_next : (b : ℕ) → length (numbers (concat (suc b) f)) ≡ length (numbers (concat b f)) + length (numbers (f b))
  length_next b = ap length (numbers_next b) ∙ length-append (numbers (concat b f)) (numbers (f b))

  length_mono : (n b : ℕ) → b ≤ n → length (numbers (concat b f)) ≤ length (numbers (concat n f))
  length_mono zero b h = let e : b ≡ 0 = omega arith in rw e (omega arith)
  length_mono (suc n) b h = at (dec_lt n b) (λ le. length_mono n b le)
    where
      at : Dec (n < b) → (b ≤ n → length (numbers (concat b f)) ≤ length (numbers (concat n f)))
          → length (numbers (concat b f)) ≤ length (numbers (concat (suc n) f))
      at (yes l) ih = let e : b ≡ suc n = omega arith in rw e (omega arith)
      at (no l) ih = omega (arith, ih (omega arith), length_next n)

  module _ (n at : ℕ) (l : List ℤ) (room : at + length (numbers (concat n f)) ≤ length l) where
    pub rows_start : Wrote at (numbers (concat 0 f)) l at l
    unfolding concat numbers
    rows_start = wrote_none at l

    pub row_fits : (row p : ℕ) (m : List ℤ) → row < n → Wrote at (numbers (concat row f)) l p m → length m ≡ length l
        → p + length (numbers (f row)) ≤ length m
    row_fits row p m h w e = omega (arith, length_mono n (suc row) h, length_next row, w.next)

    pub rows_next : (row p q : ℕ) (m k : List ℤ) → row < n → Wrote at (numbers (concat row f)) l p m
        → Wrote p (numbers (f row)) m q k → Wrote at (numbers (concat (row + 1) f)) l q k
    rows_next row p q m k h w v =
        subst (λ (ns : List ℤ). Wrote at ns l q k) (sym (numbers_next row) ∙ ap (λ (b : ℕ). numbers (concat b f)) (sym (add-one row)))
        (wrote_append (omega (arith, length_mono n row (omega arith))) w v)

-- `1 << k` for a k of at most 3
pub rows_le : (k : ℕ) → k ≤ 3 → 2 ^ k ≤ 8
rows_le k h = pow_mono h

pub rows_are : (k : ℕ) → k ≤ 3 → (1 * 2 ^ k) % 2 ^ 32 ≡ 2 ^ k
rows_are k h = ap (λ (x : ℕ). x % 2 ^ 32) (one-mul (2 ^ k)) ∙ mod-eq_of_lt (omega (arith, rows_le k h))
