-- H, T and p by shifts of whole words, as code computes them.
use mathlib.Core.Path.{◌≡◌, sym, ap₂, ◌∙◌}
use mathlib.Core.Bool.{Bool, xor}
use Prim.Native.Nat.{ℕ, ◌+◌, ◌*◌, ◌-◌, ◌/◌, ◌%◌, ◌^◌, ◌<◌, ◌≤◌}
use native.Mathlib.Omega.{arith}
use lib.Bits.{bit_and, bit_xor, and_mask}
use lib.Count.{ones}
use Rattle.words.specs.Words.{value, bit, bit_below}
use Rattle.words.proofs.Below.{count_cong, count_le}
use Rattle.words.proofs.Bits.{bit_mod, bit_shift, bit_shl, bit-xor, bit_below_far, bit_below_shift, bit_below_xor}
use Rattle.words.proofs.Bits.{from_bits_cong, from_bits_mod, value_bit, xor_assoc}
use Rattle.words.proofs.Masks.{one_shl}
use Rattle.words.proofs.Ones.{ones_count}
use Rattle.differential.specs.Constant.{halvings, chain_t}

-- ---- H: the ones of u XOR v shifted up by one place

pub halvings_ones : (n u v : ℕ) → ones (bit_xor u v * 2 % 2 ^ n) ≡ halvings n u v
unfolding halvings
halvings_ones n u v =
    ones_count n (bit_xor u v * 2)
    ∙ count_cong n (bit (bit_xor u v * 2)) (λ i. xor (bit_below 1 u i) (bit_below 1 v i))
    (λ i _. sym (bit_below_shift 1 (bit_xor u v) i) ∙ bit_below_xor 1 u v i)

pub halvings_le : (n u v : ℕ) → halvings n u v ≤ n
unfolding halvings
halvings_le n u v = count_le n (λ i. xor (bit_below 1 u i) (bit_below 1 v i))

-- ---- T: k bits of a shifted up by two places, and the bit below them, in w bits. For every position below w: T has none of the two
-- bits that the shift loses.

pub chain_t_shift : (w a k i : ℕ) → k ≤ i → i < w
    → a * 4 % 2 ^ w / 2 ^ (i + 1 - k) % 2 ^ k + value (bit (a * 4 % 2 ^ w) (i - k)) ≡ chain_t a k i
unfolding chain_t
chain_t_shift w a k i l h =
    sym
    (ap₂ (λ (x : ℕ) (t : Bool). x + value t)
    (from_bits_cong k (λ j. bit_below (k + 1 - j) a i) (bit (a * 4 % 2 ^ w / 2 ^ (i + 1 - k)))
    (λ j m. far (k + 1 - j) (k - 1 - j) (i + 1 - k + j) (omega arith) (omega arith) ∙ sym (bit_shift (a * 4 % 2 ^ w) (i + 1 - k) j))
    ∙ from_bits_mod k (a * 4 % 2 ^ w / 2 ^ (i + 1 - k)))
    (far (k + 2) k (i - k) (omega arith) (omega arith)))
  where
    far : (m d j : ℕ) → m ≡ 2 + d → i ≡ d + j → bit_below m a i ≡ bit (a * 4 % 2 ^ w) j
    far m d j e f = ap₂ (λ (x y : ℕ). bit_below x a y) e f ∙ bit_below_far 2 d a j ∙ sym (bit_mod (a * 4) w j (omega arith))

-- with a mask of k ones
pub chain_t_masked : (w a k i : ℕ) → k ≤ i → i < w
    → bit_and (a * 4 % 2 ^ w / 2 ^ (i + 1 - k)) (1 * 2 ^ k % 2 ^ w - 1) + a * 4 % 2 ^ w / 2 ^ (i - k) % 2 ≡ chain_t a k i
chain_t_masked w a k i l h =
    rw (one_shl w k (omega arith), and_mask (a * 4 % 2 ^ w / 2 ^ (i + 1 - k)) k, ← value_bit (a * 4 % 2 ^ w) (i - k))
    (chain_t_shift w a k i l h)

-- ---- p: which of its two cases

pub case_bit : (a u v i : ℕ) → i < 64
    → bit (bit_xor (bit_xor (a * 2 % 2 ^ 64) u) v) i ≡ xor (bit_below 1 a i) (xor (bit u i) (bit v i))
case_bit a u v i l = simp (bit-xor, bit_shl 64 1 a i l, xor_assoc)
