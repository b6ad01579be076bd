-- Laws of lists of questions: what they come to, one after the other.
use Prim.Native.Nat.{ℕ, zero, suc, ◌+◌, ◌<◌}
use native.Mathlib.Numerals.{add-one}
use native.Mathlib.Decide.{le_ind}
use native.Mathlib.Omega.{arith}
use mathlib.Core.Path.{◌≡◌, refl, sym, ap, ◌∙◌, subst}
use mathlib.Core.Bool.{Bool, true, false, ◌&&◌, cond, and-eq-true_iff, and_assoc, true≢false}
use mathlib.Core.List.{List, [], ◌∷◌, ◌++◌, append-nil, append_assoc, IsPrefix, prefix-append}
use Rattle.words.specs.Below.{concat}
use Rattle.words.proofs.Below.{below_suc}
use Rattle.sheet.specs.Asking.{Question, ask, all_yes, Verdict, verdict}
use Rattle.sheet.specs.Asking.Verdict.{accepted, refused}

-- ---- yes to all

pub yes_append : (xs ys : List Question) → all_yes (xs ++ ys) ≡ (all_yes xs && all_yes ys)
unfolding all_yes
yes_append [] ys = refl
yes_append (q ∷ xs) ys = ap (λ t. q.answer && t) (yes_append xs ys) ∙ sym (and_assoc q.answer (all_yes xs) (all_yes ys))

pub yes_left : (xs ys : List Question) → all_yes (xs ++ ys) ≡ true → all_yes xs ≡ true
yes_left xs ys e = ((and-eq-true_iff (all_yes xs) (all_yes ys)).0 (sym (yes_append xs ys) ∙ e)).0

pub yes_right : (xs ys : List Question) → all_yes (xs ++ ys) ≡ true → all_yes ys ≡ true
yes_right xs ys e = ((and-eq-true_iff (all_yes xs) (all_yes ys)).0 (sym (yes_append xs ys) ∙ e)).1

pub yes_both : (xs ys : List Question) → all_yes xs ≡ true → all_yes ys ≡ true → all_yes (xs ++ ys) ≡ true
yes_both xs ys e d = yes_append xs ys ∙ (and-eq-true_iff (all_yes xs) (all_yes ys)).1 (e, d)

pub yes_first : (t : Bool) (n p : ℕ) (qs : List Question) → all_yes (ask t n p ∷ qs) ≡ true → t ≡ true
unfolding all_yes
yes_first t n p qs e = ((and-eq-true_iff t (all_yes qs)).0 e).0

pub yes_rest : (t : Bool) (n p : ℕ) (qs : List Question) → all_yes (ask t n p ∷ qs) ≡ true → all_yes qs ≡ true
unfolding all_yes
yes_rest t n p qs e = ((and-eq-true_iff t (all_yes qs)).0 e).1

pub yes_one : (t : Bool) (n p : ℕ) → t ≡ true → all_yes (ask t n p ∷ []) ≡ true
unfolding all_yes
yes_one t n p e = (and-eq-true_iff t true).1 (e, refl)

module _ (f : ℕ → List Question) where
  pub yes_none : all_yes (concat 0 f) ≡ true
  unfolding all_yes concat
  yes_none = refl

  pub yes_next : (k : ℕ) → all_yes (concat k f) ≡ true → all_yes (f k) ≡ true → all_yes (concat (k + 1) f) ≡ true
  unfolding concat
  yes_next k e d = rw add-one (yes_both (concat k f) (f k) e d)

  pub yes_each : (n : ℕ) → ((k : ℕ) → k < n → all_yes (f k) ≡ true) → all_yes (concat n f) ≡ true
  unfolding concat
  yes_each zero h = yes_none
  yes_each (suc n) h = yes_both (concat n f) (f n) (yes_each n (λ k l. h k (omega arith))) (h n (omega arith))

  pub yes_at : (n : ℕ) → all_yes (concat n f) ≡ true → (k : ℕ) → k < n → all_yes (f k) ≡ true
  unfolding concat
  yes_at zero e k l = absurd (omega arith)
  yes_at (suc n) e k l =
      below_suc (λ i. all_yes (f i) ≡ true) n (yes_at n (yes_left (concat n f) (f n) e)) (yes_right (concat n f) (f n) e) k l

-- ---- what a call comes to

module _ {A : Type 0} where
  -- with yes to all, the answer
  pub verdict_yes : (qs : List Question) (a : A) → all_yes qs ≡ true → verdict qs a ≡ accepted a
  unfolding verdict
  verdict_yes [] a e = refl
  verdict_yes (q ∷ qs) a e =
      ap (λ t. cond t (verdict qs a) (refused q.number q.place)) (yes_first q.answer q.number q.place qs e)
      ∙ verdict_yes qs a (yes_rest q.answer q.number q.place qs e)

  -- an answer, only with yes to all
  pub yes_verdict : (qs : List Question) (a b : A) → verdict qs a ≡ accepted b → (all_yes qs ≡ true) × (a ≡ b)
  unfolding verdict all_yes
  yes_verdict [] a b e = (refl, cc)
  yes_verdict (q ∷ qs) a b e = at q.answer (yes_verdict qs a b) e
    where
      at : (t : Bool) → (verdict qs a ≡ accepted b → (all_yes qs ≡ true) × (a ≡ b))
          → cond t (verdict qs a) (refused q.number q.place) ≡ accepted b → ((t && all_yes qs) ≡ true) × (a ≡ b)
      at true h d = h d
      at false h d = let z : ◌≡◌ {A = ℕ} 0 1 = cc in absurd (omega arith)

  -- a refusal, only with a no
  pub no_verdict : (qs : List Question) (a : A) {n p : ℕ} → verdict qs a ≡ refused n p → all_yes qs ≡ false
  no_verdict qs a {n} {p} e = at (all_yes qs) refl
    where
      at : (t : Bool) → all_yes qs ≡ t → t ≡ false
      at false d = refl
      at true d = let f = verdict_yes qs a d in let z : ◌≡◌ {A = ℕ} 0 1 = cc in absurd (omega arith)

  -- questions that pass go on with the rest
  pub go_on : (xs ys : List Question) (a : A) → all_yes xs ≡ true → verdict (xs ++ ys) a ≡ verdict ys a
  unfolding verdict
  go_on [] ys a e = refl
  go_on (q ∷ xs) ys a e =
      ap (λ t. cond t (verdict (xs ++ ys) a) (refused q.number q.place)) (yes_first q.answer q.number q.place xs e)
      ∙ go_on xs ys a (yes_rest q.answer q.number q.place xs e)

-- questions that refuse hide the rest, whatever the answer would be
pub stop : {A B : Type 0} (xs ys : List Question) (a : A) (b : B) {n p : ℕ} → verdict xs a ≡ refused n p → verdict (xs ++ ys) b ≡ refused n p
unfolding verdict
stop [] ys a b e = let z : ◌≡◌ {A = ℕ} 0 1 = cc in absurd (omega arith)
stop (q ∷ xs) ys a b {n} {p} e = at q.answer (λ d. stop xs ys a b d) e
  where
    at : (t : Bool) → (verdict xs a ≡ refused n p → verdict (xs ++ ys) b ≡ refused n p)
        → cond t (verdict xs a) (refused q.number q.place) ≡ refused n p
        → cond t (verdict (xs ++ ys) b) (refused q.number q.place) ≡ refused n p
    at true h d = h d
    at false h d =
        let e₁ : q.number ≡ n = cc in
        let e₂ : q.place ≡ p = cc in
        rw (e₁, e₂)

-- the first k pass and the next refuses: so do all n
pub stop_at : {A B : Type 0} (f : ℕ → List Question) (n k : ℕ) (a : A) (b : B) {m p : ℕ}
    → k < n → all_yes (concat k f) ≡ true → verdict (f k) a ≡ refused m p → verdict (concat n f) b ≡ refused m p
unfolding concat
stop_at f n k a b {m} {p} l e d =
    le_ind (λ i. verdict (concat i f) b ≡ refused m p)
    (go_on (concat k f) (f k) b e ∙ other (f k) d)
    (λ i _ h. stop (concat i f) (f i) b b h)
    n l
  where
    other : (qs : List Question) → verdict qs a ≡ refused m p → verdict qs b ≡ refused m p
    other qs h = ap (λ l. verdict l b) (sym (append-nil qs)) ∙ stop qs [] a b h

-- ---- where a list of questions has a no

module _ {A : Type 0} where
  -- what the questions refuse with
  pub record Refuses (qs : List Question) (a : A) : Type 0 where
    pub number : ℕ
    pub place : ℕ
    pub says : verdict qs a ≡ refused number place

  pub refuses : (qs : List Question) (a : A) → all_yes qs ≡ false → Refuses qs a
  refuses qs a e = at (verdict qs a) refl
    where
      at : (v : Verdict A) → verdict qs a ≡ v → Refuses qs a
      at (accepted b) d = absurd (true≢false (sym (yes_verdict qs a b d).0 ∙ e))
      at (refused n p) d = record { number = n; place = p; says = d }

-- ---- what a list of questions begins with

pub prefix_longer : (xs : List Question) {ys zs : List Question} → IsPrefix xs ys → IsPrefix ys zs → IsPrefix xs zs
prefix_longer xs b d = (b.0 ++ d.0, sym (append_assoc xs b.0 d.0) ∙ ap (λ l. l ++ d.0) b.1 ∙ d.1)

pub prefix_after : (before xs : List Question) {ys : List Question} → IsPrefix xs ys → IsPrefix (before ++ xs) (before ++ ys)
prefix_after before xs b = (b.0, append_assoc before xs b.0 ∙ ap (λ l. before ++ l) b.1)

pub prefix_at : (f : ℕ → List Question) (n k : ℕ) (xs : List Question) → k < n → IsPrefix xs (f k) → IsPrefix (concat k f ++ xs) (concat n f)
unfolding concat
prefix_at f n k xs l b =
    prefix_longer (concat k f ++ xs) (prefix_after (concat k f) xs b)
    (le_ind (λ i. IsPrefix (concat k f ++ f k) (concat i f)) ([], append-nil _)
    (λ i _ h. prefix_longer (concat k f ++ f k) h (prefix-append (concat i f) (f i)))
    n l)

-- ---- one question after the other

module _ {A : Type 0} where
  -- `Comes qs a v`: the questions come to v, where a is the answer after the last
  pub data Comes : List Question → A → Verdict A → Type 0 where
    done : {a : A} → Comes [] a (accepted a)
    yes : {t : Bool} {n p : ℕ} {qs : List Question} {a : A} {v : Verdict A} → t ≡ true → Comes qs a v → Comes (ask t n p ∷ qs) a v
    no : {t : Bool} {n p : ℕ} {qs : List Question} {a : A} → t ≡ false → Comes (ask t n p ∷ qs) a (refused n p)

  pub comes : {qs : List Question} {a : A} {v : Verdict A} → Comes qs a v → v ≡ verdict qs a
  unfolding verdict
  comes done = refl
  comes (yes {t} {n} {p} {qs} {a} {v} e c) = comes c ∙ ap (λ x. cond x (verdict qs a) (refused n p)) (sym e)
  comes (no {t} {n} {p} {qs} {a} e) = ap (λ x. cond x (verdict qs a) (refused n p)) (sym e)

  -- the converse
  pub came : (qs : List Question) {a : A} {v : Verdict A} → v ≡ verdict qs a → Comes qs a v
  unfolding verdict
  came [] {a} e = subst (Comes [] a) (sym e) done
  came (q ∷ qs) {a} {v} e = at q.answer refl (λ d. came qs d) e
    where
      at : (t : Bool) → q.answer ≡ t → (v ≡ verdict qs a → Comes qs a v) → v ≡ cond t (verdict qs a) (refused q.number q.place)
          → Comes (q ∷ qs) a v
      at true said rest d = yes said (rest d)
      at false said rest d = subst (Comes (q ∷ qs) a) (sym d) (no said)
