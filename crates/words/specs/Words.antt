-- Words of n bits are the numbers below 2 ^ n. XOR is the kit's `bit_xor`.
use Rattle.std.specs.Prelude.{ℕ, zero, suc, ◌+◌, ◌-◌, ◌*◌, ◌/◌, ◌%◌, ◌^◌, Bool, true, false, cond, ◌&&◌, ◌||◌, eqb, ltb, leb}

-- a bit as a number
abbrev pub value : Bool → ℕ
value false = 0
value true = 1

-- bit i of a word, bit 0 the lowest
unfoldable pub bit : ℕ → ℕ → Bool
bit x i = eqb (x / 2 ^ i % 2) 1

-- the bit k places below position i, bits below position 0 read as 0: x[i-k]
unfoldable pub bit_below : ℕ → ℕ → ℕ → Bool
bit_below k x i = cond (ltb i k) false (bit x (i - k))

-- the word of n bits whose bit i is f i
unfoldable pub from_bits : ℕ → (ℕ → Bool) → ℕ
from_bits zero f = 0
from_bits (suc n) f = value (f 0) + 2 * from_bits n (λ i. f (suc i))

-- whether x is a word of n bits
abbrev pub is_word : ℕ → ℕ → Bool
is_word n x = ltb x (2 ^ n)

-- the sum modulo 2 ^ n
unfoldable pub sum_modulo : ℕ → ℕ → ℕ → ℕ
sum_modulo n x y = (x + y) % 2 ^ n

-- x minus y modulo 2 ^ n (document 02, W-201)
unfoldable pub minus_modulo : ℕ → ℕ → ℕ → ℕ
minus_modulo n x y = (x + (2 ^ n - y % 2 ^ n)) % 2 ^ n

-- a word of n bits shifted left by r places: the bits that leave at the top are dropped, and zeros come in at the bottom
-- (document 02, W-201)
unfoldable pub shift_left : ℕ → ℕ → ℕ → ℕ
shift_left n r x = x * 2 ^ r % 2 ^ n

-- a word shifted right by r places: the bits that leave at the bottom are dropped, and zeros come in at the top (document 02, W-201)
unfoldable pub shift_right : ℕ → ℕ → ℕ
shift_right r x = x / 2 ^ r

-- a word of n bits rotated left by r places: the bits that leave at the top come in at the bottom
unfoldable pub rotate_left : ℕ → ℕ → ℕ → ℕ
rotate_left n r x = x * 2 ^ r % 2 ^ n + x / 2 ^ (n - r)

-- a word of n bits rotated right by r places: the bits that leave at the bottom come in at the top
unfoldable pub rotate_right : ℕ → ℕ → ℕ → ℕ
rotate_right n r x = x / 2 ^ r + x * 2 ^ (n - r) % 2 ^ n

-- the carry into bit i of a sum: 1 exactly when the low i bits of the two summands add up to 2 ^ i or more
-- (document 01, "Clauses")
unfoldable pub carry_into : ℕ → ℕ → ℕ → Bool
carry_into x y i = leb (2 ^ i) (x % 2 ^ i + y % 2 ^ i)

-- the borrow into bit i of x minus y: 1 exactly when the first word's low i bits are less than the second's
-- (document 02, W-201)
unfoldable pub borrow_into : ℕ → ℕ → ℕ → Bool
borrow_into x y i = ltb (x % 2 ^ i) (y % 2 ^ i)

-- two or more of three bits
abbrev pub majority : Bool → Bool → Bool → Bool
majority true b c = b || c
majority false b c = b && c
