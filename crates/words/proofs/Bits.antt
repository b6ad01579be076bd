-- The bits of a word, and the word of given bits.
use mathlib.Core.Path.{◌≡◌, refl, sym, ap, ap₂, subst, ◌∙◌}
use mathlib.Core.Bool.{Bool, true, false, not, ◌&&◌, ◌||◌, xor, cond}
use Prim.Native.Nat.{ℕ, zero, suc, ◌+◌, ◌*◌, ◌-◌, ◌/◌, ◌%◌, ◌^◌, ◌≤◌, ◌<◌, min, max}
use native.Mathlib.Nat.{add_comm, div-one, mod-lt, mul_assoc, mul-mod_left, pow-suc, suc-sub-suc, zero-div}
use native.Mathlib.Decide.{dec_lt, ℕ_discrete}
use native.Mathlib.Numerals.{one-add}
use native.Mathlib.Omega.{arith}
use lib.Arith.{digits_mod}
use lib.Bits.{bit_and, bit_or, bit_xor, differ, and_step, and_shr, or_step, or_shr, xor_lt, xor_step, xor_shr}
use lib.Dec.{eqb, ltb, leb-suc-suc}
use borrow.Author.Tests.{lt-ltb, le-ltb, eq-eqb, ne_eqb}
use lib.Pow.{field, mod-mod-pow, mod-pow-add, pow-add, pow_pos, shr_lt, shr-shr, shl-shr}
use Rattle.words.specs.Words.{value, bit, bit_below, from_bits}
use Rattle.words.proofs.TruthTables.{by_table}

-- ---- a bit as a number

pub value_lt : (b : Bool) → value b < 2
value_lt false = omega arith
value_lt true = omega arith

pub value_inj : (a b : Bool) → value a ≡ value b → a ≡ b
value_inj false false e = refl
value_inj true true e = refl
value_inj false true e = absurd (omega arith)
value_inj true false e = absurd (omega arith)

value_eqb : (x : ℕ) → x < 2 → value (eqb x 1) ≡ x
value_eqb zero h = refl
value_eqb (suc zero) h = refl
value_eqb (suc (suc x)) h = absurd (omega arith)

pub value_bit : (x i : ℕ) → value (bit x i) ≡ x / 2 ^ i % 2
unfolding bit
value_bit x i = value_eqb (x / 2 ^ i % 2) (omega arith)

-- ---- bits of shifted and of cut words

-- two bits are equal if they are as numbers
bit_same : (x i y j : ℕ) → x / 2 ^ i % 2 ≡ y / 2 ^ j % 2 → bit x i ≡ bit y j
bit_same x i y j e = value_inj (bit x i) (bit y j) (value_bit x i ∙ e ∙ sym (value_bit y j))

pub bit_zero : (x : ℕ) → value (bit x 0) ≡ x % 2
bit_zero x = value_bit x 0 ∙ ap (λ (z : ℕ). z % 2) (div-one x)

pub bit_shift : (x k i : ℕ) → bit (x / 2 ^ k) i ≡ bit x (k + i)
bit_shift x k i = bit_same (x / 2 ^ k) i x (k + i) (ap (λ (z : ℕ). z % 2) (shr-shr x k i))

pub bit_suc : (x i : ℕ) → bit x (suc i) ≡ bit (x / 2) i
bit_suc x i = sym (bit_shift x 1 i ∙ ap (bit x) (omega arith))

pub bit_mod : (x k i : ℕ) → i < k → bit (x % 2 ^ k) i ≡ bit x i
bit_mod x k i h =
    bit_same (x % 2 ^ k) i x i
    (ap (λ (z : ℕ). x % 2 ^ z / 2 ^ i % 2) parts
    ∙ ap (λ (z : ℕ). z % 2) (field x (k - i - 1 + 1) i)
    ∙ mod-mod-pow (x / 2 ^ i) (k - i - 1) 1)
  where
    parts : k ≡ k - i - 1 + 1 + i
    parts = omega arith

-- ---- the word of given bits

pub from_bits_lt : (n : ℕ) (f : ℕ → Bool) → from_bits n f < 2 ^ n
unfolding from_bits
from_bits_lt zero f = omega arith
from_bits_lt (suc n) f = omega (arith, from_bits_lt n (λ i. f (suc i)), value_lt (f 0))

pub bit_from_bits : (n : ℕ) (f : ℕ → Bool) (i : ℕ) → i < n → bit (from_bits n f) i ≡ f i
unfolding from_bits
bit_from_bits zero f i h = absurd (omega arith)
bit_from_bits (suc n) f zero h =
    value_inj (bit (value (f 0) + 2 * from_bits n (λ i. f (suc i))) 0) (f 0)
    (bit_zero (value (f 0) + 2 * from_bits n (λ i. f (suc i))) ∙ omega (arith, value_lt (f 0)))
bit_from_bits (suc n) f (suc i) h =
    bit_suc (value (f 0) + 2 * from_bits n (λ i. f (suc i))) i
    ∙ ap (λ (z : ℕ). bit z i) rest
    ∙ bit_from_bits n (λ i. f (suc i)) i (omega arith)
  where
    rest : (value (f 0) + 2 * from_bits n (λ i. f (suc i))) / 2 ≡ from_bits n (λ i. f (suc i))
    rest = omega (arith, value_lt (f 0))

pub from_bits_cong : (n : ℕ) (f g : ℕ → Bool) → ((i : ℕ) → i < n → f i ≡ g i) → from_bits n f ≡ from_bits n g
unfolding from_bits
from_bits_cong zero f g h = refl
from_bits_cong (suc n) f g h =
    ap₂ (λ (b : Bool) (y : ℕ). value b + 2 * y) (h 0 (omega arith))
    (from_bits_cong n (λ i. f (suc i)) (λ i. g (suc i)) (λ i k. h (suc i) (omega arith)))

pub from_bits_bit : (n x : ℕ) → x < 2 ^ n → from_bits n (bit x) ≡ x
unfolding from_bits
from_bits_bit zero x h = omega arith
from_bits_bit (suc n) x h =
    ap₂ (λ (u y : ℕ). u + 2 * y) (bit_zero x)
    (from_bits_cong n (λ i. bit x (suc i)) (bit (x / 2)) (λ i k. bit_suc x i) ∙ from_bits_bit n (x / 2) (omega arith))
    ∙ omega arith

-- the word of a number's lowest n bits
pub from_bits_mod : (n x : ℕ) → from_bits n (bit x) ≡ x % 2 ^ n
from_bits_mod n x =
    from_bits_cong n (bit x) (bit (x % 2 ^ n)) (λ i l. sym (bit_mod x n i l))
    ∙ from_bits_bit n (x % 2 ^ n) (mod-lt x (pow_pos n))

-- words with the same bits are equal
pub word_ext : (n x y : ℕ) → x < 2 ^ n → y < 2 ^ n → ((i : ℕ) → i < n → bit x i ≡ bit y i) → x ≡ y
word_ext n x y hx hy h = sym (from_bits_bit n x hx) ∙ from_bits_cong n (bit x) (bit y) h ∙ from_bits_bit n y hy

-- ---- XOR

differ_value : (a b : Bool) → differ (value a) (value b) ≡ value (xor a b)
unfolding xor
differ_value false false = refl
differ_value false true = refl
differ_value true false = refl
differ_value true true = refl

-- An operation on words that goes bit by bit: the lowest bit of what it makes, here after i bits are shifted out, is that of the
-- operands' lowest bits.
bit_by_bit : (f : ℕ → ℕ → ℕ) (g : Bool → Bool → Bool) (rest x y z i : ℕ)
    → ((a b : Bool) → f (value a) (value b) ≡ value (g a b))
    → z / 2 ^ i ≡ rest * 2 + f (x / 2 ^ i % 2) (y / 2 ^ i % 2)
    → bit z i ≡ g (bit x i) (bit y i)
bit_by_bit f g rest x y z i table e =
    value_inj (bit z i) (g (bit x i) (bit y i))
    (value_bit z i
    ∙ ap (λ (w : ℕ). w % 2) (e ∙ ap (λ (w : ℕ). rest * 2 + w) low)
    ∙ digits_mod rest (value_lt (g (bit x i) (bit y i))))
  where
    low : f (x / 2 ^ i % 2) (y / 2 ^ i % 2) ≡ value (g (bit x i) (bit y i))
    low = ap₂ f (sym (value_bit x i)) (sym (value_bit y i)) ∙ table (bit x i) (bit y i)

pub bit-xor : (x y i : ℕ) → bit (bit_xor x y) i ≡ xor (bit x i) (bit y i)
bit-xor x y i =
    bit_by_bit differ xor (bit_xor (x / 2 ^ i / 2) (y / 2 ^ i / 2)) x y (bit_xor x y) i differ_value
    (xor_shr x y i ∙ xor_step (x / 2 ^ i) (y / 2 ^ i))

pub xor_twice : (a b : Bool) → xor a (xor a b) ≡ b
unfolding xor
xor_twice false false = refl
xor_twice false true = refl
xor_twice true false = refl
xor_twice true true = refl

-- what is put in by XOR is taken out again
pub bit_xor_cancel : (n x y : ℕ) → x < 2 ^ n → y < 2 ^ n → bit_xor x (bit_xor x y) ≡ y
bit_xor_cancel n x y hx hy =
    word_ext n (bit_xor x (bit_xor x y)) y (xor_lt n x (bit_xor x y) hx (xor_lt n x y hx hy)) hy
    (λ i k. bit-xor x (bit_xor x y) i ∙ ap (xor (bit x i)) (bit-xor x y i) ∙ xor_twice (bit x i) (bit y i))

xor_interchange : (a b c e : Bool) → xor (xor a b) (xor c e) ≡ xor (xor a c) (xor b e)
unfolding xor
xor_interchange = by_table 4 (λ a b c e. xor (xor a b) (xor c e)) (λ a b c e. xor (xor a c) (xor b e)) refl

-- four words in two pairs, or crosswise
pub bit_xor_interchange : (n x u y v : ℕ) → x < 2 ^ n → u < 2 ^ n → y < 2 ^ n → v < 2 ^ n
    → bit_xor (bit_xor x u) (bit_xor y v) ≡ bit_xor (bit_xor x y) (bit_xor u v)
bit_xor_interchange n x u y v hx hu hy hv =
    word_ext n (bit_xor (bit_xor x u) (bit_xor y v)) (bit_xor (bit_xor x y) (bit_xor u v))
    (xor_lt n (bit_xor x u) (bit_xor y v) (xor_lt n x u hx hu) (xor_lt n y v hy hv))
    (xor_lt n (bit_xor x y) (bit_xor u v) (xor_lt n x y hx hy) (xor_lt n u v hu hv))
    (λ i k. simp bit-xor (xor_interchange (bit x i) (bit u i) (bit y i) (bit v i)))

-- ---- OR

max_value : (a b : Bool) → max (value a) (value b) ≡ value (a || b)
max_value false false = refl
max_value false true = refl
max_value true false = refl
max_value true true = refl

pub bit-or : (x y i : ℕ) → bit (bit_or x y) i ≡ (bit x i || bit y i)
bit-or x y i =
    bit_by_bit max ◌||◌ (bit_or (x / 2 ^ i / 2) (y / 2 ^ i / 2)) x y (bit_or x y) i max_value
    (or_shr x y i ∙ or_step (x / 2 ^ i) (y / 2 ^ i))

-- ---- AND

min_value : (a b : Bool) → min (value a) (value b) ≡ value (a && b)
min_value false false = refl
min_value false true = refl
min_value true false = refl
min_value true true = refl

pub bit-and : (x y i : ℕ) → bit (bit_and x y) i ≡ (bit x i && bit y i)
bit-and x y i =
    bit_by_bit min ◌&&◌ (bit_and (x / 2 ^ i / 2) (y / 2 ^ i / 2)) x y (bit_and x y) i min_value
    (and_shr x y i ∙ and_step (x / 2 ^ i) (y / 2 ^ i))

-- ---- bits below a position

pub bit_none : (i : ℕ) → bit 0 i ≡ false
bit_none i = value_inj (bit 0 i) false (value_bit 0 i ∙ ap (λ (z : ℕ). z % 2) (zero-div (2 ^ i)))

-- a word of n bits has none past them
pub bit_past : (n x i : ℕ) → x < 2 ^ n → n ≤ i → bit x i ≡ false
bit_past n x i h past =
    ap (bit x) parts ∙ sym (bit_shift x n (i - n)) ∙ ap (λ (z : ℕ). bit z (i - n)) none ∙ bit_none (i - n)
  where
    parts : i ≡ n + (i - n)
    parts = omega arith

    none : x / 2 ^ n ≡ 0
    none = omega (arith, shr_lt 0 n (subst (λ (k : ℕ). x < 2 ^ k) whole h))
      where
        whole : n ≡ 0 + n
        whole = omega arith

-- x[i-k] is bit i of x shifted up by k places
pub bit_below_shift : (k x i : ℕ) → bit_below k x i ≡ bit (x * 2 ^ k) i
unfolding bit_below
bit_below_shift k x i = at (dec_lt i k)
  where
    at : Dec (i < k) → cond (ltb i k) false (bit x (i - k)) ≡ bit (x * 2 ^ k) i
    at (yes l) =
        ap (λ t. cond t false (bit x (i - k))) (lt-ltb i k l)
        ∙ sym (sym (bit_mod (x * 2 ^ k) k i l) ∙ ap (λ (z : ℕ). bit z i) (mul-mod_left x (2 ^ k)) ∙ bit_none i)
    at (no l) =
        ap (λ t. cond t false (bit x (i - k))) (le-ltb i k (omega arith))
        ∙ sym
        (ap (bit (x * 2 ^ k)) parts
        ∙ sym (bit_shift (x * 2 ^ k) k (i - k))
        ∙ ap (λ (z : ℕ). bit z (i - k)) (shl-shr x k))
      where
        parts : i ≡ k + (i - k)
        parts = omega arith

-- also where the shift loses the bits from w on
pub bit_shl : (w k x i : ℕ) → i < w → bit (x * 2 ^ k % 2 ^ w) i ≡ bit_below k x i
bit_shl w k x i l = bit_mod (x * 2 ^ k) w i l ∙ sym (bit_below_shift k x i)

-- one shift for all places d further down
pub bit_below_far : (k d x i : ℕ) → bit_below (k + d) x (d + i) ≡ bit (x * 2 ^ k) i
bit_below_far k d x i =
    bit_below_shift (k + d) x (d + i)
    ∙ sym (bit_shift (x * 2 ^ (k + d)) d i)
    ∙ ap (λ (z : ℕ). bit z i) (ap (λ (z : ℕ). z / 2 ^ d) parts ∙ shl-shr (x * 2 ^ k) d)
  where
    parts : x * 2 ^ (k + d) ≡ x * 2 ^ k * 2 ^ d
    parts = ap (λ (z : ℕ). x * z) (pow-add 2 k d) ∙ sym (mul_assoc x (2 ^ k) (2 ^ d))

pub bit_below_xor : (k x y i : ℕ) → bit_below k (bit_xor x y) i ≡ xor (bit_below k x i) (bit_below k y i)
unfolding bit_below xor
bit_below_xor k x y i = ap (cond (ltb i k) false) (bit-xor x y (i - k)) ∙ at (ltb i k)
  where
    at : (t : Bool) → cond t false (xor (bit x (i - k)) (bit y (i - k))) ≡ xor (cond t false (bit x (i - k))) (cond t false (bit y (i - k)))
    at true = refl
    at false = refl

-- the bit one place below
pub below_zero : (x : ℕ) → bit_below 1 x 0 ≡ false
unfolding bit_below
below_zero x = refl

pub below_suc : (x i : ℕ) → bit_below 1 x (suc i) ≡ bit x i
unfolding bit_below
below_suc x i = ap₂ (λ (t : Bool) (j : ℕ). cond t false (bit x j)) (le-ltb (suc i) 1 (omega arith)) (omega arith)

-- one place up on both sides
pub bit_below_suc : (k x i : ℕ) → bit_below (suc k) x (suc i) ≡ bit_below k x i
unfolding bit_below
bit_below_suc k x i = ap₂ (λ (t : Bool) (j : ℕ). cond t false (bit x j)) (leb-suc-suc (suc i) k) (suc-sub-suc i k)

-- ---- from the top: a number's lowest k + 1 bits are bit k above the lowest k

pub mod_bit : (x k : ℕ) → x % 2 ^ suc k ≡ value (bit x k) * 2 ^ k + x % 2 ^ k
mod_bit x k =
    ap (λ (z : ℕ). x % 2 ^ z) (sym (one-add k))
    ∙ mod-pow-add x 1 k
    ∙ ap (λ (z : ℕ). z * 2 ^ k + x % 2 ^ k) (sym (value_bit x k))

pub from_bits_top : (k : ℕ) (f : ℕ → Bool) → from_bits (suc k) f ≡ from_bits k f + value (f k) * 2 ^ k
unfolding from_bits
from_bits_top zero f = omega arith
from_bits_top (suc k) f = omega (arith, from_bits_top k (λ i. f (suc i)), twice)
  where
    twice : value (f (suc k)) * 2 ^ suc k ≡ value (f (suc k)) * 2 ^ k * 2
    twice = ap (λ (z : ℕ). value (f (suc k)) * z) (pow-suc 2 k) ∙ sym (mul_assoc (value (f (suc k))) (2 ^ k) 2)

-- two tests of equality agree where each equality gives the other
pub eqb_iff : (x y z w : ℕ) → (x ≡ y → z ≡ w) → (z ≡ w → x ≡ y) → eqb x y ≡ eqb z w
eqb_iff x y z w f g =
    elim (ℕ_discrete x y) [
      | yes e ↦ eq-eqb x y e ∙ sym (eq-eqb z w (f e))
      | no d ↦ ne_eqb x y d ∙ sym (ne_eqb z w (λ e. d (g e)))
    ]

-- numbers below p, each under one bit
eqb_under : (p : ℕ) (b c : Bool) (x y : ℕ) → x < p → y < p
    → eqb (value b * p + x) (value c * p + y) ≡ (not (xor b c) && eqb x y)
unfolding xor
eqb_under p true true x y hx hy = eqb_iff (1 * p + x) (1 * p + y) x y (λ e. omega arith) (λ e. omega arith)
eqb_under p false false x y hx hy = eqb_iff (0 * p + x) (0 * p + y) x y (λ e. omega arith) (λ e. omega arith)
eqb_under p true false x y hx hy = ne_eqb (1 * p + x) (0 * p + y) (λ e. omega arith)
eqb_under p false true x y hx hy = ne_eqb (0 * p + x) (1 * p + y) (λ e. omega arith)

-- the lowest k + 1 bits of two numbers are equal where their bits k are, and their lowest k
pub eqb_bit : (x y k : ℕ)
    → eqb (x % 2 ^ suc k) (y % 2 ^ suc k) ≡ (not (xor (bit x k) (bit y k)) && eqb (x % 2 ^ k) (y % 2 ^ k))
eqb_bit x y k =
    ap₂ eqb (mod_bit x k) (mod_bit y k)
    ∙ eqb_under (2 ^ k) (bit x k) (bit y k) (x % 2 ^ k) (y % 2 ^ k) (mod-lt x (pow_pos k)) (mod-lt y (pow_pos k))

-- the word of the k bits below position i: x shifted up by k places, down by i, and cut
pub from_bits_below : (k x i : ℕ) → from_bits k (λ j. bit_below (k - j) x i) ≡ x * 2 ^ k / 2 ^ i % 2 ^ k
from_bits_below k x i = from_bits_cong k (λ j. bit_below (k - j) x i) (bit (x * 2 ^ k / 2 ^ i)) same ∙ from_bits_mod k (x * 2 ^ k / 2 ^ i)
  where
    same : (j : ℕ) → j < k → bit_below (k - j) x i ≡ bit (x * 2 ^ k / 2 ^ i) j
    same j l =
        bit_below_shift (k - j) x i
        ∙ sym (bit_below_far (k - j) j x i)
        ∙ ap₂ (λ (m p : ℕ). bit_below m x p) (omega arith) (add_comm j i)
        ∙ bit_below_shift k x (i + j)
        ∙ sym (bit_shift (x * 2 ^ k) i j)

-- ---- XOR of bits, in any order

pub false_xor : (a : Bool) → xor false a ≡ a
unfolding xor
false_xor false = refl
false_xor true = refl

pub xor_self : (a : Bool) → xor a a ≡ false
unfolding xor
xor_self false = refl
xor_self true = refl

pub xor_comm : (a b : Bool) → xor a b ≡ xor b a
unfolding xor
xor_comm false false = refl
xor_comm false true = refl
xor_comm true false = refl
xor_comm true true = refl

pub xor_assoc : (a b c : Bool) → xor (xor a b) c ≡ xor a (xor b c)
unfolding xor
xor_assoc false false false = refl
xor_assoc false false true = refl
xor_assoc false true false = refl
xor_assoc false true true = refl
xor_assoc true false false = refl
xor_assoc true false true = refl
xor_assoc true true false = refl
xor_assoc true true true = refl

pub xor_left_comm : (a b c : Bool) → xor a (xor b c) ≡ xor b (xor a c)
xor_left_comm a b c = sym (xor_assoc a b c) ∙ ap (λ (t : Bool). xor t c) (xor_comm a b) ∙ xor_assoc b a c
