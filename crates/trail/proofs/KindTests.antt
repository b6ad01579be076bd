-- Which fields the kind of a number uses, as the code tells by the number: rules for `search`, each computed over the numbers.
use Prim.Native.Nat.{ℕ, ◌<◌, ◌≤◌}
use native.Mathlib.Omega.{arith}
use mathlib.Core.Path.{◌≡◌, refl}
use mathlib.Core.Logic.{◌⊎◌, inl, inr}
use mathlib.Core.Bool.{true, false}
use Rattle.trail.specs.Kinds.{kind_of, uses_second, uses_amount, uses_constant, wants_distinct}
use Rattle.trail.proofs.KindNumbers.{at_keys, in_range, numbers_with, with_number, no_number}

pub second_used : (k : ℕ) → (k ≡ 1) ⊎ ((k ≡ 5) ⊎ (k ≡ 9)) → uses_second (kind_of k) ≡ true
unfolding kind_of
second_used k h = at_keys (λ q. uses_second q ≡ true) (numbers_with uses_second) k h (refl, (refl, (refl, tt)))

pub second_unused : (k : ℕ) → ((k ≡ 1) ⊎ ((k ≡ 5) ⊎ (k ≡ 9)) → ⊥) → uses_second (kind_of k) ≡ false
unfolding kind_of
second_unused k h = no_number uses_second k refl h

pub constant_used : (k : ℕ) → (k ≡ 2) ⊎ (k ≡ 6) → uses_constant (kind_of k) ≡ true
unfolding kind_of
constant_used k h = at_keys (λ q. uses_constant q ≡ true) (numbers_with uses_constant) k h (refl, (refl, tt))

pub constant_unused : (k : ℕ) → ((k ≡ 2) ⊎ (k ≡ 6) → ⊥) → uses_constant (kind_of k) ≡ false
unfolding kind_of
constant_unused k h = no_number uses_constant k refl h

pub distinct_wanted : (k : ℕ) → (k ≡ 5) ⊎ (k ≡ 9) → wants_distinct (kind_of k) ≡ true
unfolding kind_of
distinct_wanted k h = at_keys (λ q. wants_distinct q ≡ true) (numbers_with wants_distinct) k h (refl, (refl, tt))

pub distinct_unwanted : (k : ℕ) → ((k ≡ 5) ⊎ (k ≡ 9) → ⊥) → wants_distinct (kind_of k) ≡ false
unfolding kind_of
distinct_unwanted k h = no_number wants_distinct k refl h

-- operands that must name different words are two
pub distinct_second : (k : ℕ) → wants_distinct (kind_of k) ≡ true → uses_second (kind_of k) ≡ true
unfolding kind_of
distinct_second k wanted =
    at_keys (λ q. uses_second q ≡ true) (numbers_with wants_distinct) k (with_number wants_distinct k refl wanted) (refl, (refl, tt))

-- the rotations and the shifts are a range of numbers each
pub amount_of_rotation : (k : ℕ) → 3 ≤ k → k < 5 → uses_amount (kind_of k) ≡ true
unfolding kind_of
amount_of_rotation k least most = in_range (λ q. uses_amount q ≡ true) least most (refl, (refl, tt))

pub amount_of_shift : (k : ℕ) → 7 ≤ k → k < 9 → uses_amount (kind_of k) ≡ true
unfolding kind_of
amount_of_shift k least most = in_range (λ q. uses_amount q ≡ true) least most (refl, (refl, tt))

pub amount_unused : (k : ℕ) → ((3 ≤ k) × (k < 5) → ⊥) → ((7 ≤ k) × (k < 9) → ⊥) → uses_amount (kind_of k) ≡ false
unfolding kind_of
amount_unused k low high = no_number uses_amount k refl out
  where
    out : (k ≡ 3) ⊎ ((k ≡ 4) ⊎ ((k ≡ 7) ⊎ (k ≡ 8))) → ⊥
    out (inl e) = low (omega arith, omega arith)
    out (inr (inl e)) = low (omega arith, omega arith)
    out (inr (inr (inl e))) = high (omega arith, omega arith)
    out (inr (inr (inr e))) = high (omega arith, omega arith)

pub ruleset kind-tests = (
  second_used,
  second_unused,
  constant_used,
  constant_unused,
  distinct_wanted,
  distinct_unwanted,
  amount_of_rotation,
  amount_of_shift,
  amount_unused,
)
