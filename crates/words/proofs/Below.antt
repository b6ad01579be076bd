-- Laws of tests, counts, sums and lists over the numbers below a bound.
use mathlib.Core.Path.{◌≡◌, refl, sym, ap, ap₂, subst, ◌∙◌}
use mathlib.Core.Logic.{◌≢◌}
use mathlib.Core.Bool.{Bool, true, false, ◌&&◌, ◌||◌, cond, and_assoc, and-eq-true_iff, and-true, or-false, or-true, or_assoc, true≢false}
use mathlib.Core.List.{List, [], ◌∷◌, ◌++◌, map, append-nil, append_assoc}
use Prim.Native.Nat.{ℕ, zero, suc, ◌+◌, ◌-◌, ◌*◌, ◌/◌, ◌%◌, ◌≤◌, ◌<◌}
use native.Mathlib.Decide.{dec_lt, ℕ_discrete}
use native.Mathlib.Nat.{add-zero, mul-add, mul-zero, suc-mul, zero-mul}
use native.Mathlib.Numerals.{add-one}
use native.Mathlib.Omega.{arith}
use borrow.Author.Count.{below_none}
use lib.Arith.{digits_div, digits_mod}
use lib.ListN.{length, get_or, set, length-set, length-append, get_or-append}
use lib.Seq.{get_or_at, get_or-set_same, get_or-set_other, ext_get_or}
use Rattle.words.specs.Words.{value}
use Rattle.words.specs.Below.{all, any, count, total, tabulate, concat}
use Rattle.words.proofs.Bits.{value_lt}

-- what holds at each number below the bound and at the bound holds below the next
pub below_suc {ℓ} : (P : ℕ → Type ℓ) (b : ℕ) → ((k : ℕ) → k < b → P k) → P b → (k : ℕ) → k < suc b → P k
below_suc P b h here k l = at (dec_lt k b)
  where
    at : Dec (k < b) → P k
    at (yes less) = h k less
    at (no not-less) = subst P same here
      where
        same : b ≡ k
        same = omega arith

-- a number is below m, or m and some more
pub below_or_past : (P : ℕ → Type 0) (m : ℕ) → ((j : ℕ) → j < m → P j) → ((k : ℕ) → P (m + k)) → (j : ℕ) → P j
below_or_past P m low high j = at (dec_lt j m)
  where
    at : Dec (j < m) → P j
    at (yes less) = low j less
    at (no not-less) = subst P whole (high (j - m))
      where
        whole : m + (j - m) ≡ j
        whole = omega arith

-- What goes up from bound to bound by the value at each depends on the values below the bound alone.
step_cong : {A B : Type 0} (F : ℕ → (ℕ → A) → B) (step : B → A → B)
    → ((f g : ℕ → A) → F zero f ≡ F zero g) → ((b : ℕ) (f : ℕ → A) → F (suc b) f ≡ step (F b f) (f b))
    → (b : ℕ) (f g : ℕ → A) → ((k : ℕ) → k < b → f k ≡ g k) → F b f ≡ F b g
step_cong F step start next zero f g h = start f g
step_cong F step start next (suc b) f g h =
    next b f
    ∙ ap₂ step (step_cong F step start next b f g (λ k l. h k (omega arith))) (h b (omega arith))
    ∙ sym (next b g)

-- ---- a test of each

pub all_true : (b : ℕ) (p : ℕ → Bool) → all b p ≡ true → (k : ℕ) → k < b → p k ≡ true
unfolding all
all_true zero p h = below_none (λ k. p k ≡ true)
all_true (suc b) p h =
    below_suc (λ k. p k ≡ true) b (all_true b p ((and-eq-true_iff (all b p) (p b)).0 h).0) ((and-eq-true_iff (all b p) (p b)).0 h).1

pub all_yes_lem : (b : ℕ) (p : ℕ → Bool) → ((k : ℕ) → k < b → p k ≡ true) → all b p ≡ true
unfolding all
all_yes_lem zero p h = refl
all_yes_lem (suc b) p h = (and-eq-true_iff (all b p) (p b)).1 (all_yes_lem b p (λ k l. h k (omega arith)), h b (omega arith))

pub all_none : (p : ℕ → Bool) → all 0 p ≡ true
unfolding all
all_none p = refl

pub all_next : (k : ℕ) (p : ℕ → Bool) → all k p ≡ true → p k ≡ true → all (k + 1) p ≡ true
unfolding all
all_next k p h here = ap (λ (z : ℕ). all z p) (add-one k) ∙ (and-eq-true_iff (all k p) (p k)).1 (h, here)

pub all_fails : (b : ℕ) (p : ℕ → Bool) (k : ℕ) → k < b → p k ≡ false → all b p ≡ false
all_fails b p k l no-pass = at (all b p) refl
  where
    at : (t : Bool) → all b p ≡ t → t ≡ false
    at false e = refl
    at true e = absurd (true≢false (sym (all_true b p e k l) ∙ no-pass))

pub all_split : (a b : ℕ) (p : ℕ → Bool) → all (a + b) p ≡ (all a p && all b (λ i. p (a + i)))
unfolding all
all_split a zero p = ap (λ (z : ℕ). all z p) (add-zero a) ∙ sym (and-true (all a p))
all_split a (suc b) p =
    ap (λ (z : ℕ). all z p) next
    ∙ ap (λ t. t && p (a + b)) (all_split a b p)
    ∙ and_assoc (all a p) (all b (λ i. p (a + i))) (p (a + b))
  where
    next : a + suc b ≡ suc (a + b)
    next = omega arith

pub all_cong : (b : ℕ) (p q : ℕ → Bool) → ((k : ℕ) → k < b → p k ≡ q k) → all b p ≡ all b q
unfolding all
all_cong = step_cong all ◌&&◌ (λ p q. refl) (λ b p. refl)

-- a test that passes wherever another says so, once all before it pass, need not be made there
pub all_unless : (b : ℕ) (p told : ℕ → Bool) → ((k : ℕ) → k < b → told k ≡ true → all k p ≡ true → p k ≡ true)
    → all b p ≡ all b (λ k. told k || p k)
unfolding all
all_unless zero p told h = refl
all_unless (suc b) p told h =
    at (all b p) refl (told b) refl ∙ ap (λ t. t && (told b || p b)) (all_unless b p told (λ k l. h k (omega arith)))
  where
    at : (before : Bool) → all b p ≡ before → (t : Bool) → told b ≡ t → (before && p b) ≡ (before && (t || p b))
    at false e t f = refl
    at true e false f = refl
    at true e true f = h b (omega arith) f e

-- ---- a test of some

pub any_cong : (b : ℕ) (p q : ℕ → Bool) → ((k : ℕ) → k < b → p k ≡ q k) → any b p ≡ any b q
unfolding any
any_cong = step_cong any ◌||◌ (λ p q. refl) (λ b p. refl)

-- from the low end
pub any_shift : (b : ℕ) (p : ℕ → Bool) → any (suc b) p ≡ (p 0 || any b (λ k. p (suc k)))
unfolding any
any_shift zero p = sym (or-false (p 0))
any_shift (suc b) p = ap (λ t. t || p (suc b)) (any_shift b p) ∙ or_assoc (p 0) (any b (λ k. p (suc k))) (p (suc b))

pub any_none : (p : ℕ → Bool) → any 0 p ≡ false
unfolding any
any_none p = refl

pub any_no : (b : ℕ) (p : ℕ → Bool) → ((k : ℕ) → k < b → p k ≡ false) → any b p ≡ false
unfolding any
any_no zero p h = refl
any_no (suc b) p h = ap (λ t. t || p b) (any_no b p (λ k l. h k (omega arith))) ∙ h b (omega arith)

pub any_next : (k : ℕ) (p : ℕ → Bool) → any k p ≡ false → p k ≡ false → any (k + 1) p ≡ false
unfolding any
any_next k p h here = ap (λ (z : ℕ). any z p) (add-one k) ∙ ap (λ t. t || p k) h ∙ here

pub any_found : (b : ℕ) (p : ℕ → Bool) (k : ℕ) → k < b → p k ≡ true → any b p ≡ true
unfolding any
any_found zero p k l e = absurd (omega arith)
any_found (suc b) p k l e =
    below_suc (λ i. p i ≡ true → (any b p || p b) ≡ true) b
    (λ i less d. ap (λ t. t || p b) (any_found b p i less d))
    (λ d. ap (λ t. any b p || t) d ∙ or-true (any b p))
    k l e

-- a number below the bound that passes
pub record Found (b : ℕ) (p : ℕ → Bool) : Type 0 where
  pub number : ℕ
  pub below : number < b
  pub passes : p number ≡ true

pub found_more : {b : ℕ} {p : ℕ → Bool} → Found b p → Found (b + 1) p
found_more w = record { number = w.number; below = omega (arith, w.below); passes = w.passes }

pub any_witness : (b : ℕ) (p : ℕ → Bool) → any b p ≡ true → Found b p
unfolding any
any_witness zero p h = absurd (true≢false (sym h))
any_witness (suc b) p h = at (any b p) refl h (any_witness b p)
  where
    at : (t : Bool) → any b p ≡ t → (t || p b) ≡ true → (any b p ≡ true → Found b p) → Found (suc b) p
    at true e _ earlier = let w = earlier e in record { number = w.number; below = omega (arith, w.below); passes = w.passes }
    at false _ here earlier = record { number = b; below = omega arith; passes = here }

-- ---- how many pass

-- from the low end
pub count_shift : (b : ℕ) (p : ℕ → Bool) → count (suc b) p ≡ value (p 0) + count b (λ k. p (suc k))
unfolding count
count_shift zero p = omega arith
count_shift (suc b) p = omega (arith, count_shift b p)

pub count_cong : (b : ℕ) (p q : ℕ → Bool) → ((k : ℕ) → k < b → p k ≡ q k) → count b p ≡ count b q
unfolding count
count_cong = step_cong count (λ c t. c + value t) (λ p q. refl) (λ b p. refl)

pub count_le : (b : ℕ) (p : ℕ → Bool) → count b p ≤ b
unfolding count
count_le zero p = omega arith
count_le (suc b) p = omega (arith, count_le b p, value_lt (p b))

pub count_all : (b : ℕ) (p : ℕ → Bool) → ((k : ℕ) → k < b → p k ≡ true) → count b p ≡ b
unfolding count
count_all zero p h = refl
count_all (suc b) p h = omega (arith, count_all b p (λ k l. h k (omega arith)), ap value (h b (omega arith)))

pub count_none : (b : ℕ) (p : ℕ → Bool) → ((k : ℕ) → k < b → p k ≡ false) → count b p ≡ 0
unfolding count
count_none zero p h = refl
count_none (suc b) p h = omega (arith, count_none b p (λ k l. h k (omega arith)), ap value (h b (omega arith)))

pub count_zero→none : (b : ℕ) (p : ℕ → Bool) → count b p ≡ 0 → (k : ℕ) → k < b → p k ≡ false
unfolding count
count_zero→none zero p h = below_none (λ k. p k ≡ false)
count_zero→none (suc b) p h = below_suc (λ k. p k ≡ false) b (count_zero→none b p (omega arith)) (no_value (p b) (omega arith))
  where
    no_value : (t : Bool) → value t ≡ 0 → t ≡ false
    no_value false e = refl
    no_value true e = absurd (omega arith)

pub count_split : (a b : ℕ) (p : ℕ → Bool) → count (a + b) p ≡ count a p + count b (λ i. p (a + i))
unfolding count
count_split a zero p = ap (λ (z : ℕ). count z p) (add-zero a) ∙ sym (add-zero (count a p))
count_split a (suc b) p = ap (λ (z : ℕ). count z p) next ∙ omega (arith, count_split a b p)
  where
    next : a + suc b ≡ suc (a + b)
    next = omega arith

-- a test that is the same everywhere
pub count_when : (b : ℕ) (t : Bool) (p : ℕ → Bool) → count b (λ k. t && p k) ≡ cond t (count b p) 0
count_when b true p = refl
count_when b false p = count_none b (λ k. false) (λ k l. refl)

-- ---- sums

pub total_cong : (b : ℕ) (f g : ℕ → ℕ) → ((k : ℕ) → k < b → f k ≡ g k) → total b f ≡ total b g
unfolding total
total_cong = step_cong total ◌+◌ (λ f g. refl) (λ b f. refl)

pub total_add : (b : ℕ) (f g : ℕ → ℕ) → total b (λ k. f k + g k) ≡ total b f + total b g
unfolding total
total_add zero f g = refl
total_add (suc b) f g = omega (arith, total_add b f g)

pub total_mul : (b c : ℕ) (f : ℕ → ℕ) → total b (λ k. c * f k) ≡ c * total b f
unfolding total
total_mul zero c f = sym (mul-zero c)
total_mul (suc b) c f = ap (λ (z : ℕ). z + c * f b) (total_mul b c f) ∙ sym (mul-add c (total b f) (f b))

-- the same value everywhere
pub total_same : (b c : ℕ) → total b (λ k. c) ≡ c * b
unfolding total
total_same zero c = omega arith
total_same (suc b) c = omega (arith, total_same b c)

-- the first a, then the others
pub total_split : (a b : ℕ) (f : ℕ → ℕ) → total (a + b) f ≡ total a f + total b (λ i. f (a + i))
unfolding total
total_split a zero f = ap (λ (z : ℕ). total z f) (add-zero a) ∙ sym (add-zero (total a f))
total_split a (suc b) f = ap (λ (z : ℕ). total z f) next ∙ omega (arith, total_split a b f)
  where
    next : a + suc b ≡ suc (a + b)
    next = omega arith

-- where c values from a on are others, the sums differ by these
pub total_exchanged : (a c b : ℕ) (f g : ℕ → ℕ) → ((i : ℕ) → i < a → f i ≡ g i) → ((i : ℕ) → i < b → f (a + c + i) ≡ g (a + c + i))
    → total (a + c + b) f + total c (λ i. g (a + i)) ≡ total (a + c + b) g + total c (λ i. f (a + i))
total_exchanged a c b f g before after =
    omega (
      arith,
      total_split (a + c) b f,
      total_split a c f,
      total_split (a + c) b g,
      total_split a c g,
      total_cong a f g before,
      total_cong b (λ i. f (a + c + i)) (λ i. g (a + c + i)) after,
    )

-- smaller values
pub total_le : (b : ℕ) (f g : ℕ → ℕ) → ((k : ℕ) → k < b → f k ≤ g k) → total b f ≤ total b g
unfolding total
total_le zero f g h = omega arith
total_le (suc b) f g h = omega (arith, total_le b f g (λ k l. h k (omega arith)), h b (omega arith))

-- by rows or by columns
pub exchange : (a b : ℕ) (f : ℕ → ℕ → ℕ) → total a (λ x. total b (f x)) ≡ total b (λ y. total a (λ x. f x y))
unfolding total
exchange zero b f = sym (total_same b 0 ∙ zero-mul b)
exchange (suc a) b f = ap (λ (z : ℕ). z + total b (f a)) (exchange a b f) ∙ sym (total_add b (λ y. total a (λ x. f x y)) (f a))

-- The pairs of a number below a and a number below b, counted one by one or row by row.
pub count_product : (a b : ℕ) (p : ℕ → ℕ → Bool) → 0 < b → count (a * b) (λ z. p (z / b) (z % b)) ≡ total a (λ x. count b (p x))
unfolding total count
count_product zero b p h = ap (λ (z : ℕ). count z (λ z. p (z / b) (z % b))) (zero-mul b)
count_product (suc a) b p h =
    ap (λ (z : ℕ). count z pair) (suc-mul a b)
    ∙ count_split (a * b) b pair
    ∙ ap₂ ◌+◌ (count_product a b p h) (count_cong b (λ i. pair (a * b + i)) (p a) row)
  where
    pair : ℕ → Bool
    pair z = p (z / b) (z % b)

    row : (i : ℕ) → i < b → pair (a * b + i) ≡ p a i
    row i l = ap₂ p (digits_div a l) (digits_mod a l)

-- ---- lists

module _ {A : Type 0} where
  -- an element of a mapped list, whatever the default
  pub get_or_map_below : {B : Type 0} (f : A → B) (l : List A) (i : ℕ) (d : A) (e : B) → i < length l → get_or (map f l) i e ≡ f (get_or l i d)
  get_or_map_below f [] i d e h = absurd (omega arith)
  get_or_map_below f (x ∷ xs) zero d e h = refl
  get_or_map_below f (x ∷ xs) (suc i) d e h = get_or_map_below f xs i d e (omega arith)

  pub tabulate_cong : (b : ℕ) (f g : ℕ → A) → ((k : ℕ) → k < b → f k ≡ g k) → tabulate b f ≡ tabulate b g
  unfolding tabulate
  tabulate_cong = step_cong tabulate (λ l x. l ++ (x ∷ [])) (λ f g. refl) (λ b f. refl)

  pub length_tabulate : (b : ℕ) (f : ℕ → A) → length (tabulate b f) ≡ b
  unfolding tabulate
  length_tabulate zero f = refl
  length_tabulate (suc b) f = length-append (tabulate b f) (f b ∷ []) ∙ omega (arith, length_tabulate b f)

  pub get_d_tabulate : (b : ℕ) (f : ℕ → A) (k : ℕ) (d : A) → k < b → get_or (tabulate b f) k d ≡ f k
  unfolding tabulate
  get_d_tabulate zero f k d l = absurd (omega arith)
  get_d_tabulate (suc b) f k d l =
      below_suc (λ k. get_or (tabulate b f ++ (f b ∷ [])) k d ≡ f k) b
      (λ k less. get_or-append (tabulate b f) (f b ∷ []) d k (omega (arith, length_tabulate b f)) ∙ get_d_tabulate b f k d less)
      (get_or_at (tabulate b f) (f b) [] d b (length_tabulate b f))
      k l

  pub tabulate_first : (b : ℕ) (f : ℕ → A) → tabulate (suc b) f ≡ f zero ∷ tabulate b (λ k. f (suc k))
  unfolding tabulate
  tabulate_first zero f = refl
  tabulate_first (suc b) f = ap (λ (l : List A). l ++ (f (suc b) ∷ [])) (tabulate_first b f)

  -- one value changed
  pub tabulate_set : (b : ℕ) (f g : ℕ → A) (k : ℕ) {v : A} → k < b → f k ≡ v → ((i : ℕ) → i ≢ k → f i ≡ g i)
      → tabulate b f ≡ set (tabulate b g) k v
  tabulate_set b f g k {v} inside here others =
      ext_get_or v (tabulate b f) (set (tabulate b g) k v) (length_tabulate b f ∙ sym (length-set (tabulate b g) k v ∙ length_tabulate b g))
      (λ i l. at i (omega (arith, length_tabulate b f)) (ℕ_discrete i k))
    where
      at : (i : ℕ) → i < b → Dec (i ≡ k) → get_or (tabulate b f) i v ≡ get_or (set (tabulate b g) k v) i v
      at i l (yes e) =
          get_d_tabulate b f i v l
          ∙ ap f e
          ∙ here
          ∙ sym (get_or-set_same (tabulate b g) k v v (omega (arith, length_tabulate b g)))
          ∙ ap (λ (n : ℕ). get_or (set (tabulate b g) k v) n v) (sym e)
      at i l (no other) =
          get_d_tabulate b f i v l
          ∙ others i other
          ∙ sym (get_or-set_other (tabulate b g) k i v v other ∙ get_d_tabulate b g i v l)

  pub concat_cong : (b : ℕ) (f g : ℕ → List A) → ((k : ℕ) → k < b → f k ≡ g k) → concat b f ≡ concat b g
  unfolding concat
  concat_cong = step_cong concat ◌++◌ (λ f g. refl) (λ b f. refl)

  -- the first of the lists, and those behind it
  pub concat_first : (b : ℕ) (f : ℕ → List A) → concat (suc b) f ≡ f zero ++ concat b (λ k. f (suc k))
  unfolding concat
  concat_first zero f = sym (append-nil (f zero))
  concat_first (suc b) f =
      ap (λ (l : List A). l ++ f (suc b)) (concat_first b f) ∙ append_assoc (f zero) (concat b (λ k. f (suc k))) (f (suc b))

  pub length_concat : (b : ℕ) (f : ℕ → List A) → length (concat b f) ≡ total b (λ k. length (f k))
  unfolding concat total
  length_concat zero f = refl
  length_concat (suc b) f = length-append (concat b f) (f b) ∙ ap (λ (n : ℕ). n + length (f b)) (length_concat b f)
