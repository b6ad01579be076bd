-- A number's text two digits at a time, and the table as it is filled. Assumes nothing.
use Prim.Native.Nat.{ℕ, ◌+◌, ◌*◌, ◌/◌, ◌%◌, ◌≤◌, ◌<◌}
use native.Mathlib.Omega.{arith}
use mathlib.Core.Path.{◌≡◌, refl, sym, ap, subst, ◌∙◌}
use mathlib.Core.List.{List, [], ◌∷◌, ◌++◌, append_assoc}
use lib.ListN.{length, set, get_or, length-set, length-append}
use lib.Seq.{get_or-set_same, get_or-set_other}
use Rattle.words.proofs.Below.{below_suc}
use Rattle.buffers.specs.Overwrite.{Wrote}
use Rattle.buffers.proofs.Appending.{wrote_set, wrote_append}
use Rattle.decimal.specs.Decimal.{digit_byte, decimal}
use Rattle.decimal.proofs.Decimals.{small, large}
use Rattle.digit_pairs.specs.Pairs.{two_digits, PairTable}

-- a number of two digits
pub both_digits : (v : ℕ) → 10 ≤ v → v < 100 → decimal v ≡ two_digits v
both_digits v h g = large v h ∙ ap (λ (ds : List ℕ). ds ++ (digit_byte (v % 10) ∷ [])) (small (v / 10) (omega arith))

-- the last two digits stand behind the text of the hundreds
pub hundreds : (v : ℕ) → 100 ≤ v → decimal v ≡ decimal (v / 100) ++ two_digits (v % 100)
hundreds v h =
    let tens : v / 10 / 10 ≡ v / 100 = omega arith in
    let high : v / 10 % 10 ≡ v % 100 / 10 = omega arith in
    let low : v % 10 ≡ v % 100 % 10 = omega arith in
    large v (omega arith)
    ∙ ap (λ (ds : List ℕ). ds ++ (digit_byte (v % 10) ∷ [])) (large (v / 10) (omega arith))
    ∙ append_assoc (decimal (v / 10 / 10)) (digit_byte (v / 10 % 10) ∷ []) (digit_byte (v % 10) ∷ [])
    ∙ rw (tens, high, low)

-- ---- the table, filled up to a number

pub record Filled (v : ℕ) (table : List ℕ) : Type 0 where
  pub size : length table ≡ 200
  pub tens : (j : ℕ) → j < v → get_or table (2 * j) 0 ≡ digit_byte (j / 10)
  pub ones : (j : ℕ) → j < v → get_or table (2 * j + 1) 0 ≡ digit_byte (j % 10)

pub filled_none : {table : List ℕ} → length table ≡ 200 → Filled 0 table
filled_none e = record { size = e; tens = λ j h. absurd (omega arith); ones = λ j h. absurd (omega arith) }

pub filled_next : (v : ℕ) {table : List ℕ} → v < 100 → Filled v table
    → Filled (v + 1) (set (set table (2 * v) (digit_byte (v / 10))) (2 * v + 1) (digit_byte (v % 10)))
filled_next v {table} room f =
    let ten : ℕ = digit_byte (v / 10) in
    let one : ℕ = digit_byte (v % 10) in
    let half : List ℕ = set table (2 * v) ten in
    let long : length half ≡ 200 = length-set table (2 * v) ten ∙ f.size in
    record {
      size = length-set half (2 * v + 1) one ∙ long;
      tens = λ j h. get_or-set_other half (2 * v + 1) (2 * j) one 0 (λ e. omega arith)
          ∙ below_suc (λ j. get_or half (2 * j) 0 ≡ digit_byte (j / 10)) v
          (λ j h. get_or-set_other table (2 * v) (2 * j) ten 0 (λ e. omega arith) ∙ f.tens j h)
          (get_or-set_same table (2 * v) ten 0 (omega (arith, f.size))) j (omega arith);
      ones = λ j h. below_suc (λ j. get_or (set half (2 * v + 1) one) (2 * j + 1) 0 ≡ digit_byte (j % 10)) v
          (λ j h. get_or-set_other half (2 * v + 1) (2 * j + 1) one 0 (λ e. omega arith)
          ∙ get_or-set_other table (2 * v) (2 * j + 1) ten 0 (λ e. omega arith) ∙ f.ones j h)
          (get_or-set_same half (2 * v + 1) one 0 (omega arith)) j (omega arith);
    }

pub filled_all : {v : ℕ} {table : List ℕ} → 100 ≤ v → Filled v table → PairTable table
filled_all h f = record { size = f.size; tens = λ j l. f.tens j (omega arith); ones = λ j l. f.ones j (omega arith) }

-- ---- writes

pub pair_wrote : (at v : ℕ) (l : List ℕ) {a b : ℕ} → at + 2 ≤ length l → a ≡ digit_byte (v / 10) → b ≡ digit_byte (v % 10)
    → Wrote at (two_digits v) l (at + 2) (set (set l at a) (at + 1) b)
pair_wrote at v l {a} {b} room e d =
    record {
      next = refl;
      now_is = rw (e, d)
          (wrote_append {b = digit_byte (v % 10) ∷ []} (omega arith) (wrote_set at (digit_byte (v / 10)) l (omega arith))
          (wrote_set (at + 1) (digit_byte (v % 10)) (set l at (digit_byte (v / 10))) (rw length-set (omega arith)))).now_is;
    }

-- the hundreds, then the last two digits
pub length_hundreds : (v : ℕ) → 100 ≤ v → length (decimal v) ≡ length (decimal (v / 100)) + 2
length_hundreds v h = ap length (hundreds v h) ∙ length-append (decimal (v / 100)) (two_digits (v % 100))

pub hundreds_wrote : (v : ℕ) → 100 ≤ v → {at p q : ℕ} {l m k : List ℕ} → at + length (decimal v) ≤ length l
    → Wrote at (decimal (v / 100)) l p m → Wrote p (two_digits (v % 100)) m q k → Wrote at (decimal v) l q k
hundreds_wrote v h {at} {p} {q} {l} {m} {k} room w u =
    subst (λ (text : List ℕ). Wrote at text l q k) (sym (hundreds v h)) (wrote_append (omega (arith, length_hundreds v h)) w u)

-- the same twice
pub length_ten_thousands : (v : ℕ) → 10000 ≤ v → length (decimal v) ≡ length (decimal (v / 10000)) + 4
length_ten_thousands v h =
    let e : v / 100 / 100 ≡ v / 10000 = omega arith in
    omega (arith, length_hundreds v (omega arith), length_hundreds (v / 100) (omega arith), ap (λ (n : ℕ). length (decimal n)) e)

pub ten_thousands_wrote : (v : ℕ) → 10000 ≤ v → {at p q r : ℕ} {l m k j : List ℕ} → at + length (decimal v) ≤ length l
    → Wrote at (decimal (v / 10000)) l p m → Wrote p (two_digits (v / 100 % 100)) m q k → Wrote q (two_digits (v % 100)) k r j
    → Wrote at (decimal v) l r j
ten_thousands_wrote v h {at} {p} {q} {r} {l} {m} room w u x =
    let e : v / 100 / 100 ≡ v / 10000 = omega arith in
    hundreds_wrote v (omega arith) room
    (hundreds_wrote (v / 100) (omega arith) (omega (arith, length_hundreds v (omega arith)))
    (subst (λ (n : ℕ). Wrote at (decimal n) l p m) (sym e) w) u)
    x
