-- Adding a constant a to a word with difference u, for the result's difference v: states, chains and their numbers (document 01,
-- "Line reports"; source document 000, Theorem 2).
use Rattle.std.specs.Prelude.{ℕ, zero, suc, ◌+◌, ◌-◌, ◌%◌, ◌^◌, Bool, not, ◌&&◌, cond, ltb, eqb}
use Rattle.std.specs.Bool.{xor}
use Rattle.std.specs.Int.Bits.{bit_xor}
use Rattle.words.specs.Words.{bit, bit_below, from_bits, value}
use Rattle.words.specs.Below.{count}

-- N counts x below 2 ^ n with ((x XOR u) + a) XOR (x + a) = v, the sums modulo 2 ^ n
abbrev pub constant_fits : (n a u v x : ℕ) → Bool
constant_fits n a u v x = eqb (bit_xor ((bit_xor x u + a) % 2 ^ n) ((x + a) % 2 ^ n)) v

abbrev pub constant_fitting : (n a u v : ℕ) → ℕ
constant_fitting n a u v = count (2 ^ n) (constant_fits n a u v)

-- with bits below position 0 read as 0, state S_i is (u[i-1], v[i-1], u[i] XOR v[i])
pub record State : Type 0 where
  pub u_below : Bool
  pub v_below : Bool
  pub differ : Bool

abbrev pub state : ℕ → ℕ → ℕ → State
state u v i = record { u_below = bit_below 1 u i; v_below = bit_below 1 v i; differ = xor (bit u i) (bit v i) }

-- a state 000, and a state 11*
abbrev pub is000 : State → Bool
is000 s = not s.u_below && (not s.v_below && not s.differ)

abbrev pub is11 : State → Bool
is11 s = s.u_below && s.v_below

-- H counts the i with u[i-1] different from v[i-1]
unfoldable pub halvings : ℕ → ℕ → ℕ → ℕ
halvings n u v = count n (λ i. xor (bit_below 1 u i) (bit_below 1 v i))

-- the longest unbroken run of states 000 directly below state i: K
unfoldable pub quiet : ℕ → ℕ → ℕ → ℕ
quiet u v zero = 0
quiet u v (suc i) = cond (is000 (state u v i)) (suc (quiet u v i)) 0

-- a chain is such a run of K >= 1 states 000 directly below a state 11*
unfoldable pub is_chain : ℕ → ℕ → ℕ → Bool
is_chain u v i = is11 (state u v i) && ltb 0 (quiet u v i)

unfoldable pub chains : ℕ → ℕ → ℕ → ℕ
chains n u v = count n (is_chain u v)

-- T = the K-bit number a[i-2]..a[i-K-1], plus a[i-K-2]
unfoldable pub chain_t : ℕ → ℕ → ℕ → ℕ
chain_t a k i = from_bits k (λ j. bit_below (k + 1 - j) a i) + value (bit_below (k + 2) a i)

-- p is T if a[i-1] XOR u[i] XOR v[i] = 1, else 2 ^ K - T
unfoldable pub chain_p : ℕ → ℕ → ℕ → ℕ → ℕ → ℕ
chain_p a u v k i = cond (xor (bit_below 1 a i) (xor (bit u i) (bit v i))) (chain_t a k i) (2 ^ k - chain_t a k i)
