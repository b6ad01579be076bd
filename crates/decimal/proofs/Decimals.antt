-- The laws of decimal text. Assumes nothing.
use mathlib.Core.Path.{◌≡◌, refl, sym, ap, ◌∙◌}
use mathlib.Core.List.{List, [], ◌∷◌, ◌++◌}
use Prim.Native.Nat.{ℕ, zero, suc, ◌+◌, ◌/◌, ◌%◌, ◌^◌, ◌≤◌, ◌<◌}
use native.Mathlib.Nat.{div-lt_self, mod-eq_of_lt, pow-suc}
use native.Mathlib.Decide.{dec_lt}
use native.Mathlib.Omega.{arith}
use lib.ListN.{length, length-append}
use Rattle.decimal.specs.Decimal.{digits, decimal}

digits_zero : (k : ℕ) → digits k 0 ≡ []
unfolding digits
digits_zero zero = refl
digits_zero (suc k) = refl

-- any bound that is not too small serves
bound : (k j v : ℕ) → v ≤ k → v ≤ j → digits k v ≡ digits j v
unfolding digits
bound zero j v h g = let e : v ≡ 0 = omega arith in rw e (sym (digits_zero j))
bound (suc k) zero v h g = let e : v ≡ 0 = omega arith in rw (e, digits_zero (suc k), digits_zero zero)
bound (suc k) (suc j) zero h g = refl
bound (suc k) (suc j) (suc v) h g =
    let less : suc v / 10 < suc v = div-lt_self (omega arith) (omega arith) in
    ap (λ (ds : List ℕ). ds ++ ((48 + suc v % 10) ∷ [])) (bound k j (suc v / 10) (omega arith) (omega arith))

pub small : (v : ℕ) → v < 10 → decimal v ≡ (48 + v) ∷ []
unfolding decimal digits
small zero h = refl
small (suc v) h =
    let e : suc v / 10 ≡ 0 = omega arith in
    let f : suc v % 10 ≡ suc v = mod-eq_of_lt h in
    rw (e, digits_zero v, f)

-- the last digit stands behind the text of the tens
pub large : (v : ℕ) → 10 ≤ v → decimal v ≡ decimal (v / 10) ++ ((48 + v % 10) ∷ [])
unfolding decimal digits
large zero h = absurd (omega arith)
large (suc v) h = at (suc v / 10) refl
  where
    at : (q : ℕ) → suc v / 10 ≡ q → digits v (suc v / 10) ++ ((48 + suc v % 10) ∷ []) ≡ decimal q ++ ((48 + suc v % 10) ∷ [])
    at zero e = absurd (omega arith)
    at (suc q) e =
        let less : suc v / 10 < suc v = div-lt_self (omega arith) (omega arith) in
        rw e (ap (λ (ds : List ℕ). ds ++ ((48 + suc v % 10) ∷ [])) (bound v (suc q) (suc q) (omega arith) (omega arith)))

-- What holds of the numbers of one digit, and of a number if it holds of its tens, holds of every number.
module _ (P : ℕ → Type 0) (one : (v : ℕ) → v < 10 → P v) (more : (v : ℕ) → 10 ≤ v → P (v / 10) → P v) where
  upto : (k v : ℕ) → v ≤ k → P v
  upto zero v h = one v (omega arith)
  upto (suc k) v h = at (dec_lt v 10) (λ le. upto k (v / 10) le)
    where
      at : Dec (v < 10) → (v / 10 ≤ k → P (v / 10)) → P v
      at (yes l) tens = one v l
      at (no g) tens =
          let less : v / 10 < v = div-lt_self (omega arith) (omega arith) in
          more v (omega arith) (tens (omega arith))

  pub by_digits : (v : ℕ) → P v
  by_digits v = upto v v (omega arith)

-- ---- how many digits there are

pub length_small : (v : ℕ) → v < 10 → length (decimal v) ≡ 1
length_small v h = ap length (small v h)

pub length_large : (v : ℕ) → 10 ≤ v → length (decimal v) ≡ length (decimal (v / 10)) + 1
length_large v h = ap length (large v h) ∙ length-append (decimal (v / 10)) ((48 + v % 10) ∷ [])

pub length_two : (v : ℕ) → 10 ≤ v → v < 100 → length (decimal v) ≡ 2
length_two v h g = omega (arith, length_large v h, length_small (v / 10) (omega arith))

pub length_three : (v : ℕ) → 100 ≤ v → v < 1000 → length (decimal v) ≡ 3
length_three v h g = omega (arith, length_large v (omega arith), length_two (v / 10) (omega arith) (omega arith))

pub length_four : (v : ℕ) → 1000 ≤ v → v < 10000 → length (decimal v) ≡ 4
length_four v h g = omega (arith, length_large v (omega arith), length_three (v / 10) (omega arith) (omega arith))

pub length_more : (v : ℕ) → 10000 ≤ v → length (decimal v) ≡ length (decimal (v / 10000)) + 4
length_more v h =
    let e : v / 10 / 10 / 10 / 10 ≡ v / 10000 = omega arith in
    let one = length_large v (omega arith) in
    let two = length_large (v / 10) (omega arith) in
    let three = length_large (v / 10 / 10) (omega arith) in
    let four = length_large (v / 10 / 10 / 10) (omega arith) in
    omega (arith, ap (λ (n : ℕ). length (decimal n)) e)

pub length_some : (v : ℕ) → 1 ≤ length (decimal v)
length_some v = at (dec_lt v 10)
  where
    at : Dec (v < 10) → 1 ≤ length (decimal v)
    at (yes l) = omega (arith, length_small v l)
    at (no g) = omega (arith, length_large v (omega arith))

pub length_most_lem : (k v : ℕ) → v < 10 ^ suc k → length (decimal v) ≤ suc k
length_most_lem zero v h = omega (arith, length_small v (omega arith))
length_most_lem (suc k) v h = at (dec_lt v 10) (length_most_lem k (v / 10))
  where
    at : Dec (v < 10) → (v / 10 < 10 ^ suc k → length (decimal (v / 10)) ≤ suc k) → length (decimal v) ≤ suc (suc k)
    at (yes l) tens = omega (arith, length_small v l)
    at (no g) tens = omega (arith, length_large v (omega arith), tens (omega (arith, pow-suc 10 (suc k))))
