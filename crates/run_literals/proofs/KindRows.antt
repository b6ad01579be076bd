-- What the kinds' rows say that the writer rests on, each computed over the kinds' numbers.
use mathlib.Core.Path.{◌≡◌, refl}
use mathlib.Core.Logic.{◌≢◌, ◌⊎◌, inl, inr}
use mathlib.Core.Bool.{Bool, true, false, cond, true≢false}
use Prim.Native.Nat.{ℕ, ◌+◌, ◌-◌, ◌≤◌, ◌<◌}
use native.Mathlib.Decide.{dec_lt}
use native.Mathlib.Omega.{arith}
use borrow.Author.Tests.{ltb-true, ltb-false, le-leb, lt-leb}
use lib.Dec.{ltb, leb}
use Rattle.words.specs.Words.{carry_into}
use Rattle.trail.specs.Kinds.{kind_of, uses_second, uses_amount, uses_constant}
use Rattle.trail.proofs.KindNumbers.{at_key, in_range, last_kind, with_number, never_both}
use Rattle.clause_lists.specs.Kinds.{is_filled, gates, has_carries, two_or_more}
use Rattle.clause_lists.specs.Kinds.Taken.{bit_at, no_bit}
use Rattle.clause_lists.specs.Kinds.Carries.{made}

-- a kind with no amount takes bit i for bit i
pub own_bit : (k n r i : ℕ) → 1 ≤ k → k ≤ last_kind → uses_amount (kind_of k) ≡ false → (gates (kind_of k)).taken n r i ≡ bit_at i
unfolding kind_of
own_bit k n r i least most =
    in_range (λ q. uses_amount q ≡ false → (gates q).taken n r i ≡ bit_at i) {a = 1} {b = last_kind + 1} {k = k} least (omega arith) (
      λ e. refl,
      (λ e. refl, (λ e. absurd (true≢false e), (λ e. absurd (true≢false e), (λ e. refl, (λ e. refl, (λ e. absurd (true≢false e), (λ e. absurd (true≢false e), (λ e. refl, tt)))))))),
    )

-- ---- filled zeros

-- only the shifts, kinds 7 and 8, fill zeros in
pub unfilled : (k n r i : ℕ) → 1 ≤ k → k ≤ last_kind → k ≢ 7 → k ≢ 8 → is_filled ((gates (kind_of k)).taken n r i) ≡ false
unfolding kind_of
unfilled k n r i least most left right = at (dec_lt k 7)
  where
    at : Dec (k < 7) → is_filled ((gates (kind_of k)).taken n r i) ≡ false
    at (yes less) =
        in_range (λ q. is_filled ((gates q).taken n r i) ≡ false) {a = 1} {b = 7} {k = k} least less
        (refl, (refl, (refl, (refl, (refl, (refl, tt))))))
    at (no more) = at_key (λ q. is_filled ((gates q).taken n r i) ≡ false) {k = k} {a = 9} (omega arith) refl

pub left_filled : (k n r i : ℕ) → k ≡ 7 → ltb i r ≡ is_filled ((gates (kind_of k)).taken n r i)
unfolding kind_of
left_filled k n r i e = at_key (λ q. ltb i r ≡ is_filled ((gates q).taken n r i)) e (at (ltb i r))
  where
    at : (b : Bool) → b ≡ is_filled (cond b no_bit (bit_at (i - r)))
    at true = refl
    at false = refl

pub right_filled : (k n r i : ℕ) → k ≡ 8 → leb n (i + r) ≡ is_filled ((gates (kind_of k)).taken n r i)
unfolding kind_of
right_filled k n r i e = at_key (λ q. leb n (i + r) ≡ is_filled ((gates q).taken n r i)) e (at (ltb (i + r) n) refl)
  where
    at : (b : Bool) → ltb (i + r) n ≡ b → leb n (i + r) ≡ is_filled (cond b (bit_at (i + r)) no_bit)
    at true e = lt-leb n (i + r) (ltb-true (i + r) n e)
    at false e = le-leb n (i + r) (ltb-false (i + r) n e)

-- elsewhere a shift takes the bit that stood r places below, or above
pub left_taken : (k n r i : ℕ) → k ≡ 7 → is_filled ((gates (kind_of k)).taken n r i) ≡ false
    → (r ≤ i) × ((gates (kind_of k)).taken n r i ≡ bit_at (i - r))
unfolding kind_of
left_taken k n r i e = at_key (λ q. is_filled ((gates q).taken n r i) ≡ false → (r ≤ i) × ((gates q).taken n r i ≡ bit_at (i - r))) e (at (ltb i r) refl)
  where
    at : (b : Bool) → ltb i r ≡ b → is_filled (cond b no_bit (bit_at (i - r))) ≡ false → (r ≤ i) × (cond b no_bit (bit_at (i - r)) ≡ bit_at (i - r))
    at true e h = absurd (true≢false h)
    at false e h = (ltb-false i r e, refl)

pub right_taken : (k n r i : ℕ) → k ≡ 8 → is_filled ((gates (kind_of k)).taken n r i) ≡ false
    → (i + r < n) × ((gates (kind_of k)).taken n r i ≡ bit_at (i + r))
unfolding kind_of
right_taken k n r i e = at_key (λ q. is_filled ((gates q).taken n r i) ≡ false → (i + r < n) × ((gates q).taken n r i ≡ bit_at (i + r))) e (at (ltb (i + r) n) refl)
  where
    at : (b : Bool) → ltb (i + r) n ≡ b → is_filled (cond b (bit_at (i + r)) no_bit) ≡ false → (i + r < n) × (cond b (bit_at (i + r)) no_bit ≡ bit_at (i + r))
    at true e h = (ltb-true (i + r) n e, refl)
    at false e h = absurd (true≢false h)

-- ---- second operands, and carries

-- no kind has a constant beside a second operand
pub no_constant : (k : ℕ) → 1 ≤ k → k ≤ last_kind → uses_second (kind_of k) ≡ true → uses_constant (kind_of k) ≡ false
unfolding kind_of
no_constant k = never_both uses_second uses_constant refl k

-- the next carry is 1 if two or more of the inputs are, but for the borrow, which is kind 9's
pub carries_add : (k : ℕ) → has_carries (kind_of k) ≡ true → k ≢ 9 → (gates (kind_of k)).carries ≡ made two_or_more carry_into
unfolding kind_of
carries_add k e other = at (with_number has_carries k refl e)
  where
    at : (k ≡ 5) ⊎ ((k ≡ 6) ⊎ (k ≡ 9)) → (gates (kind_of k)).carries ≡ made two_or_more carry_into
    at (inl h) = at_key (λ q. (gates q).carries ≡ made two_or_more carry_into) h refl
    at (inr (inl h)) = at_key (λ q. (gates q).carries ≡ made two_or_more carry_into) h refl
    at (inr (inr h)) = absurd (other h)
