-- The largest word of n bits, 2 ^ n - 1, as code makes and uses it.
use mathlib.Core.Path.{◌≡◌, ap, sym, ◌∙◌}
use Prim.Native.Nat.{ℕ, suc, ◌+◌, ◌-◌, ◌*◌, ◌/◌, ◌%◌, ◌^◌, ◌≤◌, ◌<◌}
use native.Mathlib.Nat.{mod-eq_of_lt, one-mul}
use native.Mathlib.Omega.{arith}
use lib.Dec.{leb, leb-suc-suc}
use lib.Bits.{bit_and, and_mask}
use lib.Pow.{high, mod-mod-pow, ones_lt, ones_split, pow-lt, suc_ones}
use Rattle.words.specs.Words.{is_word}

-- the n highest of w ones, shifted down
pub ones_shifted : (w n : ℕ) → n ≤ w → (2 ^ w - 1) / 2 ^ (w - n) ≡ 2 ^ n - 1
ones_shifted w n h =
    ap (λ (z : ℕ). (2 ^ z - 1) / 2 ^ (w - n)) split_width
    ∙ ap (λ (z : ℕ). z / 2 ^ (w - n)) (ones_split n (w - n))
    ∙ high (2 ^ n - 1) (w - n) (ones_lt (w - n))
  where
    split_width : w ≡ n + (w - n)
    split_width = omega arith

-- a one, shifted up within w bits
pub one_shl : (w n : ℕ) → n < w → 1 * 2 ^ n % 2 ^ w ≡ 2 ^ n
one_shl w n h = ap (λ (z : ℕ). z % 2 ^ w) (one-mul (2 ^ n)) ∙ mod-eq_of_lt (pow-lt h)

-- at most the largest word: a word
pub leb_ones : (n x : ℕ) → leb x (2 ^ n - 1) ≡ is_word n x
leb_ones n x = sym (leb-suc-suc x (2 ^ n - 1)) ∙ ap (leb (suc x)) (suc_ones n)

-- the n lowest bits, also of a number that has lost those from w on
pub and_ones : (w n x : ℕ) → n ≤ w → bit_and (x % 2 ^ w) (2 ^ n - 1) ≡ x % 2 ^ n
and_ones w n x h =
    and_mask (x % 2 ^ w) n
    ∙ ap (λ (z : ℕ). x % 2 ^ z % 2 ^ n) split_width
    ∙ mod-mod-pow x (w - n) n
  where
    split_width : w ≡ w - n + n
    split_width = omega arith
