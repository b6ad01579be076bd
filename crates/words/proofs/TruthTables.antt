-- Laws of Booleans by their truth tables: two functions of n Booleans that agree in each row, by computation, are equal everywhere.
-- Two tests that pass together are equal.
use mathlib.Core.Path.{◌≡◌, refl, sym}
use mathlib.Core.Bool.{Bool, true, false, ◌&&◌, beq, and-eq-true_iff, false≢true}
use Prim.Native.Nat.{ℕ, zero, suc}

abbrev pub Table : ℕ → Type 0
Table zero = Bool
Table (suc n) = Bool → Table n

abbrev pub agree : (n : ℕ) → Table n → Table n → Bool
agree zero p q = beq p q
agree (suc n) p q = agree n (p false) (q false) && agree n (p true) (q true)

abbrev pub Same : (n : ℕ) → Table n → Table n → Type 0
Same zero p q = p ≡ q
Same (suc n) p q = (b : Bool) → Same n (p b) (q b)

equal : (p q : Bool) → beq p q ≡ true → p ≡ q
equal false false h = refl
equal true true h = refl
equal false true h = absurd (false≢true h)
equal true false h = absurd (false≢true h)

at_both : (P : Bool → Type 0) → P false → P true → (b : Bool) → P b
at_both P f t false = f
at_both P f t true = t

pub by_table : (n : ℕ) (p q : Table n) → agree n p q ≡ true → Same n p q
by_table zero p q h = equal p q h
by_table (suc n) p q h =
    at_both (λ b. Same n (p b) (q b))
    (by_table n (p false) (q false) ((and-eq-true_iff (agree n (p false) (q false)) (agree n (p true) (q true))).0 h).0)
    (by_table n (p true) (q true) ((and-eq-true_iff (agree n (p false) (q false)) (agree n (p true) (q true))).0 h).1)

pub same_test : (p q : Bool) → (p ≡ true → q ≡ true) → (q ≡ true → p ≡ true) → p ≡ q
same_test true q to from = sym (to refl)
same_test false true to from = from refl
same_test false false to from = refl
