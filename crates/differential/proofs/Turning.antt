-- Two operations on words that turn each other back, as addition and subtraction do: equally many pairs fit the one, with differences
-- α and β to γ, and the other, with γ and β to α. The first word of a pair is renamed, and the bits of a word play no part. So a
-- subtraction costs what the addition costs that turns result and second word back into the first (document 02, W-201).
use mathlib.Core.Path.{◌≡◌, refl, sym, ap, ap₂, ◌∙◌}
use mathlib.Core.Bool.{Bool, true}
use Prim.Native.Nat.{ℕ, ◌^◌, ◌<◌}
use borrow.Author.Tests.{eqb-true, eq-eqb}
use lib.Bits.{bit_xor, xor_comm, xor_lt}
use lib.Dec.{eqb}
use Rattle.words.specs.Words.{sum_modulo, minus_modulo}
use Rattle.words.proofs.Bits.{bit_xor_cancel}
use Rattle.words.proofs.Bijection.{Leads, equal_pairs}
use Rattle.words.proofs.Pairs.{pairs}
use Rattle.words.proofs.Sums.{sum_modulo_lt}
use Rattle.words.proofs.Subtraction.{minus_modulo_lt, minus_back, sum_back}
use Rattle.differential.specs.declared.Differential.{Differential}
use Rattle.differential.specs.Report.{Addition, own_addition, turning_back}
use Rattle.differential.specs.Demand2.{Proper}

-- operand values x and y with differences α and β give results that differ by γ
abbrev pub fits_by : (ℕ → ℕ → ℕ) → ℕ → ℕ → ℕ → ℕ → ℕ → Bool
fits_by f α β γ x y = eqb (bit_xor (f (bit_xor x α) (bit_xor y β)) (f x y)) γ

-- g turns result and second word of f back into the first
pub record TurnsBack (n : ℕ) (f g : ℕ → ℕ → ℕ) : Type 0 where
  pub word : (x y : ℕ) → f x y < 2 ^ n
  pub back : (x y : ℕ) → x < 2 ^ n → g (f x y) y ≡ x

pub minus_turns : (n : ℕ) → TurnsBack n (minus_modulo n) (sum_modulo n)
minus_turns n = record { word = minus_modulo_lt n; back = minus_back n }

pub sum_turns : (n : ℕ) → TurnsBack n (sum_modulo n) (minus_modulo n)
sum_turns n = record { word = sum_modulo_lt n; back = sum_back n }

module _ {n : ℕ} {f g : ℕ → ℕ → ℕ} (turns : TurnsBack n f g) (α β γ : ℕ) (hα : α < 2 ^ n) where
  -- what fits f fits g, with result and first word exchanged
  turned : (x y : ℕ) → x < 2 ^ n → fits_by f α β γ x y ≡ true → fits_by g γ β α (f x y) y ≡ true
  turned x y hx fit =
      eq-eqb (bit_xor (g (bit_xor z γ) (bit_xor y β)) (g z y)) α
      (ap₂ bit_xor
      (ap (λ (r : ℕ). g r (bit_xor y β)) again ∙ turns.back (bit_xor x α) (bit_xor y β) (xor_lt n x α hx hα))
      (turns.back x y hx)
      ∙ xor_comm (bit_xor x α) x
      ∙ bit_xor_cancel n x α hx hα)
    where
      z : ℕ
      z = f x y

      second : ℕ
      second = f (bit_xor x α) (bit_xor y β)

      -- the second run's result
      again : bit_xor z γ ≡ second
      again =
          ap (bit_xor z) (sym (eqb-true (bit_xor second z) γ fit) ∙ xor_comm second z)
          ∙ bit_xor_cancel n z second (turns.word x y) (turns.word (bit_xor x α) (bit_xor y β))

  leads : (y : ℕ) → Leads (2 ^ n) (2 ^ n) (λ x. fits_by f α β γ x y) (λ z. fits_by g γ β α z y) (λ x. f x y) (λ z. g z y)
  leads y = record {
    below = λ x l e. turns.word x y;
    passes = λ x l e. turned x y l e;
    back = λ x l e. turns.back x y l;
  }

-- THE TURN
pub pairs_turned : {n : ℕ} {f g : ℕ → ℕ → ℕ} → TurnsBack n f g → TurnsBack n g f → (α β γ : ℕ) → α < 2 ^ n → γ < 2 ^ n
    → pairs n (fits_by f α β γ) ≡ pairs n (fits_by g γ β α)
pairs_turned to from α β γ hα hγ = equal_pairs (λ y l. leads to α β γ hα y) (λ y l. leads from γ β α hγ y)

-- ---- lines of two words

-- as many pairs of operands fit a line that makes its words so as fit an addition of two words
pub record FitsAs (d : Differential) (word : ℕ → ℕ → ℕ) (sum : Addition) : Type 0 where
  pub result_word : sum.result < 2 ^ d.width
  pub as_many : pairs d.width (fits_by word d.first d.second d.line.difference)
      ≡ pairs d.width (fits_by (sum_modulo d.width) sum.first sum.second sum.result)

module _ {d : Differential} (proper : Proper d) where
  pub sum_fits : FitsAs d (sum_modulo d.width) (own_addition d)
  sum_fits = record { result_word = proper.line_right.difference_word; as_many = refl }

  pub minus_fits : FitsAs d (minus_modulo d.width) (turning_back d)
  minus_fits = record {
    result_word = proper.first_word;
    as_many =
        pairs_turned (minus_turns d.width) (sum_turns d.width) d.first d.second d.line.difference
        proper.first_word
        proper.line_right.difference_word;
  }
