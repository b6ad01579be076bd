-- The text of numbers that spell clauses is the clauses' text; how long a text is. Assumes nothing.
use Prim.Native.Nat.{ℕ, zero, suc, ◌+◌, ◌*◌, ◌^◌, ◌≤◌, ◌<◌}
use native.Mathlib.Nat.{mul-suc}
use native.Mathlib.Omega.{arith}
use mathlib.Core.Path.{◌≡◌, refl, sym, ap, ◌∙◌}
use mathlib.Core.List.{List, [], ◌∷◌, ◌++◌, append_assoc}
use lib.ListN.{length, get_or, length-append}
use lib.IntN.{ℤ, pos, negsuc, nat_abs}
use Rattle.decimal.specs.Ascii.{ascii}
use Rattle.decimal.specs.Decimal.{decimal}
use Rattle.decimal.proofs.Decimals.{length_most_lem}
use Rattle.cnf.specs.Formulas.{numbers}
use Rattle.cnf.proofs.Clauses.{Nonzero, Every, EveryIn}
use Rattle.dimacs.specs.Text.{literal_text, clause_text, clauses_text}
use Rattle.dimacs.specs.Numbers.{number_text, numbers_text, AllBelow}

literal_then_blank : (l : ℤ) → Nonzero l → number_text l ≡ literal_text l ++ ascii " "
unfolding number_text
literal_then_blank (pos zero) h = absurd h
literal_then_blank (pos (suc k)) h = refl
literal_then_blank (negsuc k) h = refl

clause_text_lem : (c : List ℤ) (ns : List ℤ) → Every Nonzero c → numbers_text (c ++ (pos zero ∷ ns)) ≡ clause_text c ++ numbers_text ns
unfolding numbers_text clause_text number_text
clause_text_lem [] ns h = refl
clause_text_lem (l ∷ c) ns h =
    rw (literal_then_blank l h.0, clause_text_lem c ns h.1)
    (append_assoc (literal_text l) (ascii " ") (clause_text c ++ numbers_text ns)
    ∙ ap (λ (t : List ℕ). literal_text l ++ t) (sym (append_assoc (ascii " ") (clause_text c) (numbers_text ns)))
    ∙ sym (append_assoc (literal_text l) (ascii " " ++ clause_text c) (numbers_text ns)))

pub same_text : (cs : List (List ℤ)) → EveryIn Nonzero cs → numbers_text (numbers cs) ≡ clauses_text cs
unfolding numbers numbers_text clauses_text
same_text [] h = refl
same_text (c ∷ cs) h = clause_text_lem c (numbers cs) h.0 ∙ ap (λ (t : List ℕ). clause_text c ++ t) (same_text cs h.1)

-- ---- how long a text is

-- a sign, at most k + 1 digits, and a byte behind them
literal_most : (k : ℕ) (l : ℤ) → nat_abs l < 10 ^ suc k → length (literal_text l) ≤ k + 2
unfolding literal_text ascii
literal_most k (pos n) h = omega (arith, length_most_lem k n h)
literal_most k (negsuc n) h = omega (arith, length_most_lem k (suc n) h)

number_most : (k : ℕ) (n : ℤ) → nat_abs n < 10 ^ suc k → length (number_text n) ≤ k + 3
unfolding number_text ascii
number_most k (pos zero) h = omega arith
number_most k (pos (suc n)) h = omega (arith, literal_most k (pos (suc n)) h, length-append (literal_text (pos (suc n))) (32 ∷ []))
number_most k (negsuc n) h = omega (arith, literal_most k (negsuc n) h, length-append (literal_text (negsuc n)) (32 ∷ []))

-- Where no number has more than k + 1 digits, k + 3 bytes a number are enough: who lends as much need not measure.
pub text_within : (k : ℕ) (ns : List ℤ) → AllBelow (10 ^ suc k) ns → length (numbers_text ns) ≤ (k + 3) * length ns
unfolding numbers_text
text_within k [] f = omega arith
text_within k (n ∷ ns) f =
    let rest = text_within k ns (λ i h. f (suc i) (omega arith)) in
    let here = number_most k n (f zero (omega arith)) in
    omega (arith, length-append (number_text n) (numbers_text ns), mul-suc (k + 3) (length ns))
