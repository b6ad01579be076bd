-- Linear operations: the difference of two results is the same whatever the operands, so that all of them fit a line or none.
use mathlib.Core.Path.{◌≡◌, sym, ap, ◌∙◌}
use mathlib.Core.Bool.{true}
use Prim.Native.Nat.{ℕ, ◌^◌, ◌<◌}
use lib.Bits.{bit_xor, xor_comm, xor_lt, xor_zero_r}
use lib.Dec.{eqb}
use lib.Pow.{pow_pos}
use Rattle.words.specs.Words.{rotate_left, rotate_right, shift_left, shift_right}
use Rattle.words.proofs.Bits.{bit_xor_cancel, bit_xor_interchange}
use Rattle.words.proofs.Rotations.{rotate_left_lt, rotate_left_xor, rotate_right_lt, rotate_right_xor}
use Rattle.words.proofs.Shifts.{shift_left_lt, shift_left_xor, shift_right_lt, shift_right_xor}
use Rattle.trail.specs.Kinds.{kind_of, uses_amount, uses_constant, makes}
use Rattle.trail.proofs.Makes.{makes_word}
use Rattle.differential.specs.declared.Differential.{Differential}
use Rattle.differential.specs.Fits.{fits}
use Rattle.differential.specs.Demand2.{Proper}

-- from operands with the stated differences come words that differ by g
pub record Linear (d : Differential) (word : ℕ → ℕ → ℕ) (g : ℕ) : Type 0 where
  pub given_word : g < 2 ^ d.width
  pub gives : (x y : ℕ) → x < 2 ^ d.width → y < 2 ^ d.width
      → word (bit_xor x d.first) (bit_xor y d.second) ≡ bit_xor (word x y) g

-- an operation on words under which an XOR's result is the XOR of the results
pub record KeepsXor (n : ℕ) (f : ℕ → ℕ) : Type 0 where
  pub word : (x : ℕ) → x < 2 ^ n → f x < 2 ^ n
  pub xor : (x u : ℕ) → x < 2 ^ n → u < 2 ^ n → f (bit_xor x u) ≡ bit_xor (f x) (f u)

module _ {d : Differential} (proper : Proper d) where
  pub linear_fits : {g : ℕ} → Linear d (makes d.width d.line) g → (x y : ℕ) → x < 2 ^ d.width → y < 2 ^ d.width
      → fits d x y ≡ eqb g d.line.difference
  unfolding fits
  linear_fits {g} l x y hx hy =
      ap (λ (z : ℕ). eqb z d.line.difference)
      (ap (λ (z : ℕ). bit_xor z made) (l.gives x y hx hy)
      ∙ xor_comm (bit_xor made g) made
      ∙ bit_xor_cancel d.width made g (makes_word proper.line_right x y hx hy) l.given_word)
    where
      made : ℕ
      made = makes d.width d.line x y

  pub xor_words : Linear d (λ x y. bit_xor x y) (bit_xor d.first d.second)
  xor_words = record {
    given_word = xor_lt d.width d.first d.second proper.first_word proper.second_word;
    gives = λ x y hx hy.
        bit_xor_interchange d.width x d.first y d.second hx proper.first_word hy proper.second_word;
  }

  pub xor_constant : uses_constant (kind_of d.line.kind) ≡ true → Linear d (λ x y. bit_xor x d.line.constant) d.first
  xor_constant used = record { given_word = proper.first_word; gives = same }
    where
      k : ℕ
      k = d.line.constant

      same : (x y : ℕ) → x < 2 ^ d.width → y < 2 ^ d.width → bit_xor (bit_xor x d.first) k ≡ bit_xor (bit_xor x k) d.first
      same x y hx hy =
          ap (bit_xor (bit_xor x d.first)) (sym (xor_zero_r k))
          ∙ bit_xor_interchange d.width x d.first k 0 hx proper.first_word
          (proper.line_right.constant_word used)
          (pow_pos d.width)
          ∙ ap (bit_xor (bit_xor x k)) (xor_zero_r d.first)

  -- an operation that keeps XORs, on the first operand alone
  first_alone : {f : ℕ → ℕ} → KeepsXor d.width f → Linear d (λ x y. f x) (f d.first)
  first_alone keeps = record {
    given_word = keeps.word d.first proper.first_word;
    gives = λ x y hx hy. keeps.xor x d.first hx proper.first_word;
  }

  abbrev n : ℕ
  n = d.width

  abbrev r : ℕ
  r = d.line.amount

  module _ (used : uses_amount (kind_of d.line.kind) ≡ true) where
    least : 0 < r
    least = proper.line_right.amount_least used

    most : r < n
    most = proper.line_right.amount_most used

    pub rotate_left_lem : Linear d (λ x y. rotate_left d.width d.line.amount x) (rotate_left d.width d.line.amount d.first)
    rotate_left_lem = first_alone (record { word = λ x. rotate_left_lt n r x most; xor = λ x u. rotate_left_xor n r x u most })

    pub rotate_right_lem : Linear d (λ x y. rotate_right d.width d.line.amount x) (rotate_right d.width d.line.amount d.first)
    rotate_right_lem =
        first_alone (record { word = λ x. rotate_right_lt n r x least most; xor = λ x u. rotate_right_xor n r x u least most })

  pub shift_left_lem : Linear d (λ x y. shift_left d.width d.line.amount x) (shift_left d.width d.line.amount d.first)
  shift_left_lem = first_alone (record { word = λ x hx. shift_left_lt n r x; xor = λ x u hx hu. shift_left_xor n r x u })

  pub shift_right_lem : Linear d (λ x y. shift_right d.line.amount x) (shift_right d.line.amount d.first)
  shift_right_lem = first_alone (record { word = shift_right_lt n r; xor = shift_right_xor n r })
