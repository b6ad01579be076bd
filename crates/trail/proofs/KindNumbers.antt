-- From a kind's number to what its row says: tests that are computed over the numbers, so that other proofs need no kind by name.
use mathlib.Core.Path.{◌≡◌, refl, sym, ap, subst, ◌∙◌}
use mathlib.Core.Logic.{◌≢◌, ◌⊎◌, inl, inr}
use mathlib.Core.Bool.{Bool, true, false, cond, not, ◌&&◌, and-eq-true_iff, false≢true}
use mathlib.Core.List.{List, [], ◌∷◌}
use Prim.Native.Nat.{ℕ, zero, suc, ◌+◌, ◌-◌, ◌≤◌, ◌<◌}
use native.Mathlib.Decide.{ℕ_discrete, dec_le}
use native.Mathlib.Omega.{arith}
use borrow.Author.Tests.{ne_eqb}
use types.Run.{OneOf}
use Rattle.trail.specs.Kinds.{Kind, kind_of}
use Rattle.trail.specs.Kinds.Kind.{xorWords, xorConstant, rotatesLeft, rotatesRight, addWords, addConstant, shiftsLeft, shiftsRight, subtractWords, unknown}

-- the highest number of a kind
abbrev pub last_kind : ℕ
last_kind = 9

-- past it no number is a kind
kind_past : (k : ℕ) → last_kind < k → kind_of k ≡ unknown
unfolding kind_of
kind_past k h =
    rw (
      ne_eqb k 1 (λ e. omega arith),
      ne_eqb k 2 (λ e. omega arith),
      ne_eqb k 3 (λ e. omega arith),
      ne_eqb k 4 (λ e. omega arith),
      ne_eqb k 5 (λ e. omega arith),
      ne_eqb k 6 (λ e. omega arith),
      ne_eqb k 7 (λ e. omega arith),
      ne_eqb k 8 (λ e. omega arith),
      ne_eqb k 9 (λ e. omega arith),
    )

kind_zero : kind_of 0 ≡ unknown
unfolding kind_of
kind_zero = refl

-- ---- what a match over the kind's number tells of the kind: P holds of it

-- at one key
pub at_key : (P : Kind → Type 0) {k a : ℕ} → k ≡ a → P (kind_of a) → P (kind_of k)
at_key P e p = subst (λ (z : ℕ). P (kind_of z)) (sym e) p

-- at several keys
abbrev pub AtEach : (ℕ → Type 0) → List ℕ → Type 0
AtEach P [] = Unit {0}
AtEach P (a ∷ ks) = P a × AtEach P ks

one_of : (P : ℕ → Type 0) (ks : List ℕ) (k : ℕ) → OneOf ks k → AtEach P ks → P k
one_of P [] k h each = absurd h
one_of P (a ∷ []) k e each = subst P (sym e) each.0
one_of P (a ∷ b ∷ ks) k (inl e) each = subst P (sym e) each.0
one_of P (a ∷ b ∷ ks) k (inr h) each = one_of P (b ∷ ks) k h each.1

pub at_keys : (P : Kind → Type 0) (ks : List ℕ) (k : ℕ) → OneOf ks k → AtEach (λ a. P (kind_of a)) ks → P (kind_of k)
at_keys P ks k h each = one_of (λ a. P (kind_of a)) ks k h each

-- in a range: c numbers from a on
abbrev pub up_from : ℕ → ℕ → List ℕ
up_from zero a = []
up_from (suc c) a = a ∷ up_from c (a + 1)

in_range_of : (c a k : ℕ) → a ≤ k → k < a + c → OneOf (up_from c a) k
in_range_of zero a k least most = absurd (omega arith)
in_range_of (suc zero) a k least most = omega arith
in_range_of (suc (suc c)) a k least most = at (ℕ_discrete k a) (λ l m. in_range_of (suc c) (a + 1) k l m)
  where
    at : Dec (k ≡ a) → (a + 1 ≤ k → k < a + 1 + suc c → OneOf (up_from (suc c) (a + 1)) k) → OneOf (up_from (suc (suc c)) a) k
    at (yes e) next = inl e
    at (no n) next = inr (next (omega arith) (omega arith))

pub in_range : (P : Kind → Type 0) {a b k : ℕ} → a ≤ k → k < b → AtEach (λ a. P (kind_of a)) (up_from (b - a) a) → P (kind_of k)
in_range P {a} {b} {k} least most each = at_keys P (up_from (b - a) a) k (in_range_of (b - a) a k least (omega arith)) each

-- past a number that has an arm of its own
pub over : {a k : ℕ} → a ≤ k → k ≢ a → a < k
over least other = omega arith

-- at no kind's number
pub at_no_kind : (P : Kind → Type 0) {k : ℕ} → (k < 1) ⊎ (last_kind < k) → P unknown → P (kind_of k)
at_no_kind P {k} (inl h) p = subst P (sym (ap kind_of (none k h) ∙ kind_zero)) p
  where
    none : (k : ℕ) → k < 1 → k ≡ 0
    none k h = omega arith
at_no_kind P {k} (inr h) p = subst P (sym (kind_past k h)) p

-- ---- the numbers of the kinds that pass a test, in a match's form

abbrev pub passing : (Kind → Bool) → List ℕ → List ℕ
passing f [] = []
passing f (a ∷ ks) = cond (f (kind_of a)) (a ∷ passing f ks) (passing f ks)

later_key : (a : ℕ) (ks : List ℕ) (k : ℕ) → OneOf ks k → OneOf (a ∷ ks) k
later_key a [] k h = absurd h
later_key a (b ∷ ks) k h = inr h

first_key : (a : ℕ) (ks : List ℕ) (k : ℕ) → k ≡ a → OneOf (a ∷ ks) k
first_key a [] k e = e
first_key a (b ∷ ks) k e = inl e

passes : (f : Kind → Bool) (ks : List ℕ) (k : ℕ) → f (kind_of k) ≡ true → OneOf ks k → OneOf (passing f ks) k
passes f [] k passed h = h
passes f (a ∷ ks) k passed h = at (f (kind_of a)) refl (ℕ_discrete k a) (passes f ks k passed)
  where
    other : (ks : List ℕ) → k ≢ a → OneOf (a ∷ ks) k → OneOf ks k
    other [] n e = n e
    other (b ∷ ks) n (inl e) = absurd (n e)
    other (b ∷ ks) n (inr h) = h

    at : (t : Bool) → f (kind_of a) ≡ t → Dec (k ≡ a) → (OneOf ks k → OneOf (passing f ks) k)
        → OneOf (cond t (a ∷ passing f ks) (passing f ks)) k
    at true e (yes here) next = first_key a (passing f ks) k here
    at true e (no n) next = later_key a (passing f ks) k (next (other ks n h))
    at false e (yes here) next = absurd (false≢true (sym e ∙ ap (λ (z : ℕ). f (kind_of z)) (sym here) ∙ passed))
    at false e (no n) next = next (other ks n h)

abbrev pub numbers_with : (Kind → Bool) → List ℕ
numbers_with f = passing f (up_from last_kind 1)

-- only those numbers pass
pub with_number : (f : Kind → Bool) (k : ℕ) → f unknown ≡ false → f (kind_of k) ≡ true → OneOf (numbers_with f) k
with_number f k none passed = at (dec_le 1 k) (dec_le k last_kind)
  where
    at : Dec (1 ≤ k) → Dec (k ≤ last_kind) → OneOf (numbers_with f) k
    at (yes least) (yes most) = passes f (up_from last_kind 1) k passed (in_range_of last_kind 1 k least (omega arith))
    at (yes least) (no more) =
        absurd (false≢true (at_no_kind (λ q. false ≡ f q) {k = k} (inr (omega arith)) (sym none) ∙ passed))
    at (no less) m = absurd (false≢true (at_no_kind (λ q. false ≡ f q) {k = k} (inl (omega arith)) (sym none) ∙ passed))

pub no_number : (f : Kind → Bool) (k : ℕ) → f unknown ≡ false → (OneOf (numbers_with f) k → ⊥) → f (kind_of k) ≡ false
no_number f k none out = at (f (kind_of k)) refl
  where
    at : (t : Bool) → f (kind_of k) ≡ t → t ≡ false
    at true e = absurd (out (with_number f k none e))
    at false e = refl

-- ---- a test that every kind passes

abbrev pub all_pass : (Kind → Bool) → List ℕ → Bool
all_pass f [] = true
all_pass f (a ∷ ks) = f (kind_of a) && all_pass f ks

each_passes : (f : Kind → Bool) (ks : List ℕ) → all_pass f ks ≡ true → AtEach (λ a. f (kind_of a) ≡ true) ks
each_passes f [] e = tt
each_passes f (a ∷ ks) e =
    let both = (and-eq-true_iff (f (kind_of a)) (all_pass f ks)).0 e in
    (both.0, each_passes f ks both.1)

pub every_kind : (f : Kind → Bool) → all_pass f (up_from last_kind 1) ≡ true → (k : ℕ) → 1 ≤ k → k ≤ last_kind → f (kind_of k) ≡ true
every_kind f test k least most =
    in_range (λ q. f q ≡ true) {a = 1} {b = last_kind + 1} {k = k} least (omega arith) (each_passes f (up_from last_kind 1) test)

-- two tests that no kind passes together
pub never_both : (f g : Kind → Bool) → all_pass (λ q. not (f q && g q)) (up_from last_kind 1) ≡ true → (k : ℕ) → 1 ≤ k → k ≤ last_kind
    → f (kind_of k) ≡ true → g (kind_of k) ≡ false
never_both f g test k least most e = at (g (kind_of k)) (rw e at (every_kind (λ q. not (f q && g q)) test k least most))
  where
    at : (b : Bool) → not (true && b) ≡ true → b ≡ false
    at true h = absurd (false≢true h)
    at false h = refl

-- ---- known kinds

is_known : Kind → Bool
is_known xorWords = true
is_known xorConstant = true
is_known rotatesLeft = true
is_known rotatesRight = true
is_known addWords = true
is_known addConstant = true
is_known shiftsLeft = true
is_known shiftsRight = true
is_known subtractWords = true
is_known unknown = false

pub known : (k : ℕ) → 1 ≤ k → k ≤ last_kind → kind_of k ≢ unknown
unfolding kind_of is_known
known k least most e = false≢true (sym (ap is_known e) ∙ is)
  where
    is : is_known (kind_of k) ≡ true
    is = every_kind is_known refl k least most

pub known_within : (k : ℕ) → kind_of k ≢ unknown → (1 ≤ k) × (k ≤ last_kind)
known_within k some = at (dec_le 1 k) (dec_le k last_kind)
  where
    at : Dec (1 ≤ k) → Dec (k ≤ last_kind) → (1 ≤ k) × (k ≤ last_kind)
    at (yes least) (yes most) = (least, most)
    at (yes least) (no more) = absurd (some (at_no_kind (λ q. q ≡ unknown) {k = k} (inr (omega arith)) refl))
    at (no less) m = absurd (some (at_no_kind (λ q. q ≡ unknown) {k = k} (inl (omega arith)) refl))
