-- Chains by computation: their numbers, which there are, their logarithms, and what the bounds on N leave each.
use mathlib.Core.Path.{◌≡◌, refl}
use mathlib.Core.Bool.{Bool, true, xor}
use mathlib.Core.List.{List, [], ◌∷◌, map}
use Prim.Native.Nat.{ℕ, ◌+◌, ◌-◌, ◌*◌, ◌^◌}
use native.Mathlib.Omega.{arith}
use Rattle.words.specs.Words.{bit, bit_below, from_bits}
use Rattle.words.specs.Below.{count, tabulate}
use Rattle.differential.specs.Constant.{quiet, is_chain, chains, chain_t, chain_p}
use Rattle.differential.specs.Logarithm.{highest_one_below, highest_one, next_four, logarithm}
use Rattle.differential.specs.Demand2.{CountedRight}

-- ---- T and p at an end of what they can be, at 32 bits (document 02, W-204)

-- whether a chain ends at a position, and its K, T and p
pub record Numbers : Type 0 where
  pub chain : Bool
  pub k : ℕ
  pub t : ℕ
  pub p : ℕ

pub record Case : Type 0 where
  pub a : ℕ
  pub u : ℕ
  pub numbers : Numbers

-- at position 31, for a constant a and a difference u, which is the stated one, too
abbrev pub top : Case → Numbers
top c =
    let k : ℕ = quiet c.u c.u 31 in
    record { chain = is_chain c.u c.u 31; k = k; t = chain_t c.a k 31; p = chain_p c.a c.u c.u k 31 }

abbrev pub case : ℕ → ℕ → ℕ → ℕ → ℕ → Case
case a u k t p = record { a = a; u = u; numbers = record { chain = true; k = k; t = t; p = p } }

abbrev pub cases : List Case
cases =
    case 0 (2 ^ 30) 31 0 (2 ^ 31)
    ∷ case (2 ^ 30 - 1) (2 ^ 30) 31 (2 ^ 31 - 2) 2
    ∷ case (2 ^ 31 - 1) (2 ^ 30) 31 (2 ^ 31 - 2) (2 ^ 31 - 2)
    ∷ case (2 ^ 30 - 2) (2 ^ 30 + 1) 29 (2 ^ 29 - 1) 1
    ∷ case (2 ^ 30 + 2) (2 ^ 30 + 1) 29 1 1
    ∷ case (2 ^ 31 - 1) (2 ^ 30 + 2) 28 (2 ^ 28) (2 ^ 28)
    ∷ []

pub long_chains : map top cases ≡ map (λ (c : Case). c.numbers) cases
unfolding bit bit_below from_bits xor quiet is_chain chain_t chain_p
long_chains = refl

-- ---- of two states 11* in a row the upper one ends no chain

pub one_chain : chains 4 3 3 ≡ 1
unfolding count bit bit_below xor quiet is_chain chains
one_chain = refl

-- a run of six states 000 is one chain, and 32 bits have room for sixteen
pub long_chain : chains 8 0x20 0x20 ≡ 1
unfolding count bit bit_below xor quiet is_chain chains
long_chain = refl

pub most_chains : chains 32 0x55555555 0x55555555 ≡ 16
unfolding count bit bit_below xor quiet is_chain chains
most_chains = refl

-- ---- A = 16 M + F, where the highest one has place 4, at each of the sixteen F

pub four_bits : tabulate 16 (λ f. logarithm (16 + f)) ≡ tabulate 16 (λ f. 16 * 4 + f)
unfolding tabulate bit bit_below from_bits highest_one_below highest_one next_four logarithm
four_bits = refl

-- ---- the bounds on N: where all words fit, one chain may cost three sixteenths, and not four

pub three_allowed : CountedRight 4 16 3 1
three_allowed = record { some = omega arith; weight_most = omega arith; low = omega arith; high = omega arith }

pub four_refused : CountedRight 4 16 4 1 → ⊥
four_refused k = omega (arith, k.high)
