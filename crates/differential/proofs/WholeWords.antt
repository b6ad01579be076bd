-- Adding two words: the rule of source document 000's Theorem 1 by operations on whole words, all positions at once.
use mathlib.Core.Path.{◌≡◌, refl, sym, ap, ap₂, ◌∙◌}
use mathlib.Core.Bool.{not, ◌&&◌, ◌||◌, xor}
use Prim.Native.Nat.{ℕ, ◌-◌, ◌*◌, ◌%◌, ◌^◌, ◌<◌, ◌≤◌}
use native.Mathlib.Omega.{arith}
use lib.Bits.{bit_and, bit_or, bit_xor, and_mask, or_mod}
use lib.Count.{ones}
use lib.Dec.{eqb}
use Rattle.words.specs.Words.{bit, bit_below}
use Rattle.words.proofs.Bits.{bit-or, bit-xor, bit_shl}
use Rattle.words.proofs.Below.{any_cong, count_cong}
use Rattle.words.proofs.Ones.{ones_count}
use Rattle.words.proofs.TruthTables.{by_table}
use Rattle.words.proofs.Unequal.{unequal_any}
use Rattle.differential.specs.TwoWords.{all_equal, clashes, words_impossible, words_weight}

-- the positions at which three words' bits are not all equal
abbrev pub unequal_bits : ℕ → ℕ → ℕ → ℕ
unequal_bits x y z = bit_or (bit_xor x y) (bit_xor y z)

-- a word shifted up by one place, in 64 bits
abbrev pub up : ℕ → ℕ
up x = x * 2 % 2 ^ 64

-- the positions at which the XOR of the three differences' bits is not α's bit one place below
abbrev pub odd_bits : ℕ → ℕ → ℕ → ℕ
odd_bits α β γ = bit_xor (bit_xor (bit_xor α β) γ) (up α)

bit_unequal : (x y z i : ℕ) → bit (unequal_bits x y z) i ≡ not (all_equal (bit x i) (bit y i) (bit z i))
unfolding xor
bit_unequal x y z i =
    simp (bit-or, bit-xor)
    (by_table 3 (λ p q r. xor p q || xor q r) (λ p q r. not (all_equal p q r)) refl (bit x i) (bit y i) (bit z i))

pub weight_ones : (n α β γ : ℕ) → ones (bit_and (unequal_bits α β γ) (2 ^ (n - 1) - 1)) ≡ words_weight n α β γ
unfolding words_weight
weight_ones n α β γ =
    ap ones (and_mask (unequal_bits α β γ) (n - 1))
    ∙ ones_count (n - 1) (unequal_bits α β γ)
    ∙ count_cong (n - 1) (bit (unequal_bits α β γ)) (λ i. not (all_equal (bit α i) (bit β i) (bit γ i))) (λ i _. bit_unequal α β γ i)

-- an odd position is one of those that are not all equal below, or it clashes
bit_clash : (α β γ i : ℕ) → i < 64
    → xor (bit (bit_or (odd_bits α β γ) (unequal_bits (up α) (up β) (up γ))) i) (bit (unequal_bits (up α) (up β) (up γ)) i)
    ≡ clashes α β γ i
unfolding clashes xor
bit_clash α β γ i h =
    simp (bit-or, bit-xor, bit_shl 64 1 α i h, bit_shl 64 1 β i h, bit_shl 64 1 γ i h)
    (by_table 6
    (λ a b c x y z. xor (xor (xor (xor a b) c) x || (xor x y || xor y z)) (xor x y || xor y z))
    (λ a b c x y z. all_equal x y z && xor (xor a (xor b c)) x)
    refl
    (bit α i) (bit β i) (bit γ i) (bit_below 1 α i) (bit_below 1 β i) (bit_below 1 γ i))

pub clash_words : (n α β γ : ℕ) → n ≤ 64
    → not
    (eqb
    (bit_or (bit_and (odd_bits α β γ) (2 ^ n - 1)) (bit_and (unequal_bits (up α) (up β) (up γ)) (2 ^ n - 1)))
    (bit_and (unequal_bits (up α) (up β) (up γ)) (2 ^ n - 1)))
    ≡ words_impossible n α β γ
unfolding words_impossible
clash_words n α β γ h =
    ap₂ (λ (z w : ℕ). not (eqb (bit_or z w) w)) (and_mask odd n) (and_mask unequal n)
    ∙ ap (λ (z : ℕ). not (eqb z (unequal % 2 ^ n))) (sym (or_mod odd unequal n))
    ∙ unequal_any n (bit_or odd unequal) unequal
    ∙ any_cong n (λ i. xor (bit (bit_or odd unequal) i) (bit unequal i)) (clashes α β γ) (λ i l. bit_clash α β γ i (omega arith))
  where
    odd : ℕ
    odd = odd_bits α β γ

    unequal : ℕ
    unequal = unequal_bits (up α) (up β) (up γ)
