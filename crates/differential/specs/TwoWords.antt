-- Adding two words, operands taken as independent: source document 000's Theorem 1, as document 01 says it ("Line reports").
-- α and β are the operands' differences, γ the result's.
use Rattle.std.specs.Prelude.{ℕ, ◌-◌, Bool, not, ◌&&◌}
use Rattle.std.specs.Bool.{xor, beq}
use Rattle.words.specs.Words.{bit, bit_below}
use Rattle.words.specs.Below.{any, count}

-- three bits are all equal
abbrev pub all_equal : Bool → Bool → Bool → Bool
all_equal p q r = beq p q && beq q r

-- at a position the three differences' bits one place below are all equal (0 below position 0) and the XOR of their three bits
-- at the position differs from that bit
unfoldable pub clashes : ℕ → ℕ → ℕ → ℕ → Bool
clashes α β γ i =
    all_equal (bit_below 1 α i) (bit_below 1 β i) (bit_below 1 γ i)
    && xor (xor (bit α i) (xor (bit β i) (bit γ i))) (bit_below 1 α i)

-- impossible if so at some position from 0 to n - 1
unfoldable pub words_impossible : ℕ → ℕ → ℕ → ℕ → Bool
words_impossible n α β γ = any n (clashes α β γ)

-- w is the number of ones among positions 0 to n - 2 at which the three differences are not all equal
unfoldable pub words_weight : ℕ → ℕ → ℕ → ℕ → ℕ
words_weight n α β γ = count (n - 1) (λ i. not (all_equal (bit α i) (bit β i) (bit γ i)))
