-- Laws of literals, of clauses one after the other, and of the numbers that spell them. Assumes nothing.
use mathlib.Core.Path.{◌≡◌, refl, sym, ap, ◌∙◌}
use mathlib.Core.Logic.{◌↔◌}
use mathlib.Core.Bool.{Bool, true, false, not, ◌&&◌, cond, xor, and_assoc, and-eq-true_iff, not-not}
use mathlib.Core.List.{List, [], ◌∷◌, ◌++◌, append_assoc, append-nil}
use Prim.Native.Nat.{ℕ, zero, suc, ◌+◌, ◌<◌}
use native.Mathlib.Omega.{arith}
use borrow.Author.Count.{below_none}
use lib.ListN.{length, get_or, length-append, get_or-append}
use lib.Seq.{get_or-append-add}
use lib.IntN.{ℤ, pos, negsuc, neg_ℤ}
use Rattle.words.specs.Below.{concat}
use Rattle.words.proofs.Below.{below_suc}
use Rattle.cnf.specs.Formulas.{holds, some_holds, all_hold, numbers, clauses_from, clauses_of, satisfies}

-- ---- literals are not 0

abbrev pub Nonzero : ℤ → Type 0
Nonzero (pos zero) = ⊥
Nonzero (pos (suc k)) = Unit {0}
Nonzero (negsuc k) = Unit {0}

pub nonzero_neg : (l : ℤ) → Nonzero l → Nonzero (neg_ℤ l)
nonzero_neg (pos zero) h = h
nonzero_neg (pos (suc k)) h = tt
nonzero_neg (negsuc k) h = tt

pub holds_neg : (v : ℕ → Bool) (l : ℤ) → Nonzero l → holds v (neg_ℤ l) ≡ not (holds v l)
unfolding holds
holds_neg v (pos zero) h = absurd h
holds_neg v (pos (suc k)) h = refl
holds_neg v (negsuc k) h = sym (not-not (v (suc k)))

pub holds_signed : (v : ℕ → Bool) (b : Bool) (l : ℤ) → Nonzero l → holds v (cond b (neg_ℤ l) l) ≡ xor (holds v l) b
unfolding xor
holds_signed v true l h = holds_neg v l h ∙ at (holds v l)
  where
    at : (t : Bool) → not t ≡ xor t true
    at true = refl
    at false = refl
holds_signed v false l h = at (holds v l)
  where
    at : (t : Bool) → t ≡ xor t false
    at true = refl
    at false = refl

-- ---- every literal of a clause, every literal of clauses

abbrev pub Every : (ℤ → Type 0) → List ℤ → Type 0
Every P [] = Unit {0}
Every P (l ∷ ls) = P l × Every P ls

abbrev pub EveryIn : (ℤ → Type 0) → List (List ℤ) → Type 0
EveryIn P [] = Unit {0}
EveryIn P (c ∷ cs) = Every P c × EveryIn P cs

module _ (P : ℤ → Type 0) where
  pub every_append : (ks ls : List ℤ) → Every P ks → Every P ls → Every P (ks ++ ls)
  every_append [] ls h k = k
  every_append (l ∷ ks) ls h k = (h.0, every_append ks ls h.1 k)

  pub every_in_append : (cs ds : List (List ℤ)) → EveryIn P cs → EveryIn P ds → EveryIn P (cs ++ ds)
  every_in_append [] ds h k = k
  every_in_append (c ∷ cs) ds h k = (h.0, every_in_append cs ds h.1 k)

  pub every_in_concat : (n : ℕ) (f : ℕ → List (List ℤ)) → ((i : ℕ) → i < n → EveryIn P (f i)) → EveryIn P (concat n f)
  unfolding concat
  every_in_concat zero f h = tt
  every_in_concat (suc n) f h = every_in_append (concat n f) (f n) (every_in_concat n f (λ i l. h i (omega arith))) (h n (omega arith))

  pub every_get_or : (ls : List ℤ) → Every P ls → (i : ℕ) → i < length ls → P (get_or ls i (pos 0))
  every_get_or [] h i l = absurd (omega arith)
  every_get_or (k ∷ ls) h zero l = h.0
  every_get_or (k ∷ ls) h (suc i) l = every_get_or ls h.1 i (omega arith)

  -- the numbers are the literals, and 0
  pub every_numbers : P (pos zero) → (cs : List (List ℤ)) → EveryIn P cs → Every P (numbers cs)
  unfolding numbers
  every_numbers z [] h = tt
  every_numbers z (c ∷ cs) h = every_append c (pos zero ∷ numbers cs) h.0 (z, every_numbers z cs h.1)

-- ---- all clauses hold

pub all_hold_append : (v : ℕ → Bool) (cs ds : List (List ℤ)) → all_hold v (cs ++ ds) ≡ (all_hold v cs && all_hold v ds)
unfolding all_hold
all_hold_append v [] ds = refl
all_hold_append v (c ∷ cs) ds =
    ap (λ (b : Bool). some_holds v c && b) (all_hold_append v cs ds) ∙ sym (and_assoc (some_holds v c) (all_hold v cs) (all_hold v ds))

pub all_hold_concat : (v : ℕ → Bool) (n : ℕ) (f : ℕ → List (List ℤ))
    → (all_hold v (concat n f) ≡ true) ↔ ((i : ℕ) → i < n → all_hold v (f i) ≡ true)
unfolding concat all_hold
all_hold_concat v zero f = (λ h. below_none (λ i. all_hold v (f i) ≡ true), λ h. refl)
all_hold_concat v (suc n) f = next (all_hold_concat v n f)
  where
    apart : all_hold v (concat n f ++ f n) ≡ (all_hold v (concat n f) && all_hold v (f n))
    apart = all_hold_append v (concat n f) (f n)

    both : ((all_hold v (concat n f) && all_hold v (f n)) ≡ true) ↔ ((all_hold v (concat n f) ≡ true) × (all_hold v (f n) ≡ true))
    both = and-eq-true_iff (all_hold v (concat n f)) (all_hold v (f n))

    next : (all_hold v (concat n f) ≡ true) ↔ ((i : ℕ) → i < n → all_hold v (f i) ≡ true)
        → (all_hold v (concat n f ++ f n) ≡ true) ↔ ((i : ℕ) → i < suc n → all_hold v (f i) ≡ true)
    next rest = (
      λ h. below_suc (λ i. all_hold v (f i) ≡ true) n (rest.0 (both.0 (sym apart ∙ h)).0) (both.0 (sym apart ∙ h)).1,
      λ h. apart ∙ both.1 (rest.1 (λ i l. h i (omega arith)), h n (omega arith)),
    )

-- ---- clauses as numbers

pub numbers_append : (cs ds : List (List ℤ)) → numbers (cs ++ ds) ≡ numbers cs ++ numbers ds
unfolding numbers
numbers_append [] ds = refl
numbers_append (c ∷ cs) ds =
    ap (λ (ns : List ℤ). c ++ (pos zero ∷ ns)) (numbers_append cs ds) ∙ sym (append_assoc c (pos zero ∷ numbers cs) (numbers ds))

pub numbers_concat : (n : ℕ) (f : ℕ → List (List ℤ)) → concat n (λ k. numbers (f k)) ≡ numbers (concat n f)
unfolding concat numbers
numbers_concat zero f = refl
numbers_concat (suc n) f = ap (λ (ns : List ℤ). ns ++ numbers (f n)) (numbers_concat n f) ∙ sym (numbers_append (concat n f) (f n))

-- ---- some number of a list, some number of clauses

abbrev pub Some : (ℤ → Type 0) → List ℤ → Type 0
Some P ns = (i : ℕ) × (i < length ns) × P (get_or ns i (pos 0))

abbrev pub SomeIn : (ℤ → Type 0) → List (List ℤ) → Type 0
SomeIn P cs = Some P (numbers cs)

module _ (P : ℤ → Type 0) where
  pub some_left : (ks ls : List ℤ) → Some P ks → Some P (ks ++ ls)
  some_left ks ls (i, l, h) = (i, omega (arith, length-append ks ls), rw (get_or-append ks ls (pos 0) i l) h)

  pub some_right : (ks ls : List ℤ) → Some P ls → Some P (ks ++ ls)
  some_right ks ls (i, l, h) = (length ks + i, omega (arith, length-append ks ls), rw (get_or-append-add ks ls i (pos 0)) h)

  pub some_in_left : (cs ds : List (List ℤ)) → SomeIn P cs → SomeIn P (cs ++ ds)
  some_in_left cs ds h = rw (numbers_append cs ds) (some_left (numbers cs) (numbers ds) h)

  pub some_in_right : (cs ds : List (List ℤ)) → SomeIn P ds → SomeIn P (cs ++ ds)
  some_in_right cs ds h = rw (numbers_append cs ds) (some_right (numbers cs) (numbers ds) h)

  pub some_in_concat : (n : ℕ) (f : ℕ → List (List ℤ)) (i : ℕ) → i < n → SomeIn P (f i) → SomeIn P (concat n f)
  unfolding concat
  some_in_concat zero f i l h = absurd (omega arith)
  some_in_concat (suc n) f i l h =
      below_suc (λ k. SomeIn P (f k) → SomeIn P (concat n f ++ f n)) n
      (λ k less here. some_in_left (concat n f) (f n) (some_in_concat n f k less here))
      (some_in_right (concat n f) (f n))
      i l h

-- a clause is read again behind the literals that are begun
read_clause : (begun c ns : List ℤ) → Every Nonzero c → clauses_from begun (c ++ (pos zero ∷ ns)) ≡ (begun ++ c) ∷ clauses_from [] ns
unfolding clauses_from
read_clause begun [] ns h = ap (λ (c : List ℤ). c ∷ clauses_from [] ns) (sym (append-nil begun))
read_clause begun (pos zero ∷ c) ns h = absurd h.0
read_clause begun (pos (suc k) ∷ c) ns h =
    read_clause (begun ++ (pos (suc k) ∷ [])) c ns h.1
    ∙ ap (λ (b : List ℤ). b ∷ clauses_from [] ns) (append_assoc begun (pos (suc k) ∷ []) c)
read_clause begun (negsuc k ∷ c) ns h =
    read_clause (begun ++ (negsuc k ∷ [])) c ns h.1
    ∙ ap (λ (b : List ℤ). b ∷ clauses_from [] ns) (append_assoc begun (negsuc k ∷ []) c)

pub clauses_numbers : (cs : List (List ℤ)) → EveryIn Nonzero cs → clauses_of (numbers cs) ≡ cs
unfolding clauses_of clauses_from numbers
clauses_numbers [] h = refl
clauses_numbers (c ∷ cs) h =
    read_clause [] c (numbers cs) h.0 ∙ ap (λ (ds : List (List ℤ)). c ∷ ds) (clauses_numbers cs h.1)

pub satisfies_numbers : (v : ℕ → Bool) (cs : List (List ℤ)) → EveryIn Nonzero cs → satisfies v (numbers cs) ≡ all_hold v cs
unfolding satisfies
satisfies_numbers v cs h = ap (all_hold v) (clauses_numbers cs h)
