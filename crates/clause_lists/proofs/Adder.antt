-- Sums and differences bit by bit: results and carries that are tied together as a bit's inputs are make up the word and its carries
-- or borrows, and only those do.
use mathlib.Core.Path.{◌≡◌, refl, sym, ap, ◌∙◌}
use mathlib.Core.Logic.{◌↔◌}
use mathlib.Core.Bool.{Bool, false, xor}
use mathlib.Core.List.{List, [], ◌∷◌}
use Prim.Native.Nat.{ℕ, zero, suc, ◌^◌, ◌<◌}
use native.Mathlib.Omega.{arith}
use Rattle.words.specs.Words.{bit, from_bits, sum_modulo, minus_modulo, carry_into, borrow_into, majority}
use Rattle.words.proofs.TruthTables.{by_table}
use Rattle.words.proofs.Bits.{from_bits_lt, bit_from_bits, word_ext, xor_comm, false_xor}
use Rattle.words.proofs.Sums.{sum_modulo_lt, carry_zero, carry_suc, bit_sum_modulo}
use Rattle.words.proofs.Subtraction.{minus_modulo_lt, minus_back, sum_back, borrow_zero, borrow_carry}
use Rattle.clause_lists.specs.Kinds.{parity, ones, two_or_more, less_than}

pub parity_one : (a : Bool) → parity (a ∷ []) ≡ a
unfolding parity
parity_one a = xor_comm a false ∙ false_xor a

pub parity_two : (a b : Bool) → parity (a ∷ b ∷ []) ≡ xor a b
unfolding parity
parity_two a b = ap (xor a) (parity_one b)

parity_three : (a b c : Bool) → parity (a ∷ b ∷ c ∷ []) ≡ xor a (xor b c)
unfolding parity
parity_three a b c = ap (xor a) (parity_two b c)

two_of_three : (a b c : Bool) → two_or_more (a ∷ b ∷ c ∷ []) ≡ majority a b c
unfolding two_or_more ones
two_of_three = by_table 3 (λ a b c. two_or_more (a ∷ b ∷ c ∷ [])) majority refl

-- the next borrow, as the carry of the sum that turns the result back
less_turned : (a b c : Bool) → less_than (a ∷ b ∷ c ∷ []) ≡ two_or_more (parity (a ∷ b ∷ c ∷ []) ∷ b ∷ c ∷ [])
unfolding less_than two_or_more ones parity xor
less_turned = by_table 3 (λ a b c. less_than (a ∷ b ∷ c ∷ [])) (λ a b c. two_or_more (parity (a ∷ b ∷ c ∷ []) ∷ b ∷ c ∷ [])) refl

parity_turned : (a b c : Bool) → parity (parity (a ∷ b ∷ c ∷ []) ∷ b ∷ c ∷ []) ≡ a
unfolding parity xor
parity_turned = by_table 3 (λ a b c. parity (parity (a ∷ b ∷ c ∷ []) ∷ b ∷ c ∷ [])) (λ a b c. a) refl

-- The result r and the carries c of words x and y are tied bit by bit: each bit of the result is the XOR of the inputs, and the next
-- carry, unless it goes out of bit n - 1, is what `next` makes of them.
abbrev pub BitTied : ℕ → (List Bool → Bool) → ℕ → ℕ → (ℕ → Bool) → (ℕ → Bool) → ℕ → Type 0
BitTied n next x y r c i =
    (r i ≡ parity (bit x i ∷ bit y i ∷ c i ∷ []))
    × (suc i < n → c (suc i) ≡ next (bit x i ∷ bit y i ∷ c i ∷ []))

-- Results and carries that are tied so make up a word and its carries, and only those do.
pub record Carrying (n : ℕ) (next : List Bool → Bool) (carry : ℕ → ℕ → ℕ → Bool) (word : ℕ → ℕ → ℕ) : Type 0 where
  pub word_lt : (x y : ℕ) → word x y < 2 ^ n
  pub carry_none : (x y : ℕ) → carry x y 0 ≡ false
  pub tied_iff : (x y : ℕ) → x < 2 ^ n → (r c : ℕ → Bool) → c 0 ≡ false
      → ((i : ℕ) → i < n → BitTied n next x y r c i)
      ↔ (((i : ℕ) → i < n → r i ≡ bit (word x y) i) × ((i : ℕ) → i < n → c i ≡ carry x y i))

module _ (n x y : ℕ) (r c : ℕ → Bool) where
  abbrev BitAdds : ℕ → Type 0
  BitAdds i = BitTied n two_or_more x y r c i

  -- THE ADDER
  adder_iff : c 0 ≡ false
      → ((i : ℕ) → i < n → BitAdds i)
      ↔ (((i : ℕ) → i < n → r i ≡ bit (sum_modulo n x y) i) × ((i : ℕ) → i < n → c i ≡ carry_into x y i))
  adder_iff none = (λ h. (λ i l. (h i l).0 ∙ sum_bit i l (carried h i l), carried h), λ h i l. (result h i l, next h i l))
    where
      sum_bit : (i : ℕ) → i < n → c i ≡ carry_into x y i → parity (bit x i ∷ bit y i ∷ c i ∷ []) ≡ bit (sum_modulo n x y) i
      sum_bit i l e =
          parity_three (bit x i) (bit y i) (c i)
          ∙ ap (λ (b : Bool). xor (bit x i) (xor (bit y i) b)) e
          ∙ sym (bit_sum_modulo n x y i l)

      next_carry : (i : ℕ) → c i ≡ carry_into x y i → two_or_more (bit x i ∷ bit y i ∷ c i ∷ []) ≡ carry_into x y (suc i)
      next_carry i e =
          two_of_three (bit x i) (bit y i) (c i) ∙ ap (majority (bit x i) (bit y i)) e ∙ sym (carry_suc x y i)

      carried : ((i : ℕ) → i < n → BitAdds i) → (i : ℕ) → i < n → c i ≡ carry_into x y i
      carried h zero l = none ∙ sym (carry_zero x y)
      carried h (suc i) l = (h i (omega arith)).1 l ∙ next_carry i (carried h i (omega arith))

      result : ((i : ℕ) → i < n → r i ≡ bit (sum_modulo n x y) i) × ((i : ℕ) → i < n → c i ≡ carry_into x y i)
          → (i : ℕ) → i < n → r i ≡ parity (bit x i ∷ bit y i ∷ c i ∷ [])
      result h i l = h.0 i l ∙ sym (sum_bit i l (h.1 i l))

      next : ((i : ℕ) → i < n → r i ≡ bit (sum_modulo n x y) i) × ((i : ℕ) → i < n → c i ≡ carry_into x y i)
          → (i : ℕ) → i < n → suc i < n → c (suc i) ≡ two_or_more (bit x i ∷ bit y i ∷ c i ∷ [])
      next h i l more = h.1 (suc i) more ∙ sym (next_carry i (h.1 i l))

pub sum_carries : (n : ℕ) → Carrying n two_or_more carry_into (sum_modulo n)
sum_carries n = record {
  word_lt = sum_modulo_lt n;
  carry_none = carry_zero;
  tied_iff = λ x y hx r c none. adder_iff n x y r c none;
}

-- ---- THE SUBTRACTOR is the adder, turned: the result and the second word add up to the first

module _ (n x y : ℕ) (hx : x < 2 ^ n) (r c : ℕ → Bool) where
  abbrev z : ℕ
  z = from_bits n r

  bit_z : (i : ℕ) → i < n → bit z i ≡ r i
  bit_z i l = bit_from_bits n r i l

  turned : (i : ℕ) → i < n → BitTied n less_than x y r c i ↔ BitTied n two_or_more z y (bit x) c i
  turned i l = (
    λ h.
        let e = bit_z i l ∙ h.0 in (
          sym (ap (λ (b : Bool). parity (b ∷ bit y i ∷ c i ∷ [])) e ∙ parity_turned (bit x i) (bit y i) (c i)),
          λ more. h.1 more ∙ less_turned (bit x i) (bit y i) (c i) ∙ ap (λ (b : Bool). two_or_more (b ∷ bit y i ∷ c i ∷ [])) (sym e),
        ),
    λ h.
        let e =
        sym (parity_turned (bit z i) (bit y i) (c i)) ∙ ap (λ (b : Bool). parity (b ∷ bit y i ∷ c i ∷ [])) (sym h.0) in (
          sym (bit_z i l) ∙ e,
          λ more. h.1 more ∙ ap (λ (b : Bool). two_or_more (b ∷ bit y i ∷ c i ∷ [])) e ∙ sym (less_turned (bit x i) (bit y i) (c i)),
        ),
  )

  -- the first word is that sum exactly when the result is the difference
  abbrev AddsUp : Type 0
  AddsUp = ((i : ℕ) → i < n → bit x i ≡ bit (sum_modulo n z y) i) × ((i : ℕ) → i < n → c i ≡ carry_into z y i)

  abbrev IsMinus : Type 0
  IsMinus = ((i : ℕ) → i < n → r i ≡ bit (minus_modulo n x y) i) × ((i : ℕ) → i < n → c i ≡ borrow_into x y i)

  borrows : z ≡ minus_modulo n x y → (i : ℕ) → i < n → carry_into z y i ≡ borrow_into x y i
  borrows e i l = ap (λ (w : ℕ). carry_into w y i) e ∙ borrow_carry n x y i (omega arith)

  turned_back : AddsUp ↔ IsMinus
  turned_back = (
    λ h.
        let sum : x ≡ sum_modulo n z y = word_ext n x (sum_modulo n z y) hx (sum_modulo_lt n z y) h.0 in
        let e : z ≡ minus_modulo n x y =
        sym (ap (λ (w : ℕ). minus_modulo n w y) sum ∙ sum_back n z y (from_bits_lt n r)) in
        (λ i l. sym (bit_z i l) ∙ ap (λ (w : ℕ). bit w i) e, λ i l. h.1 i l ∙ borrows e i l),
    λ h.
        let e : z ≡ minus_modulo n x y =
        word_ext n z (minus_modulo n x y) (from_bits_lt n r) (minus_modulo_lt n x y) (λ i l. bit_z i l ∙ h.0 i l) in
        let sum : sum_modulo n z y ≡ x = ap (λ (w : ℕ). sum_modulo n w y) e ∙ minus_back n x y hx in
        (λ i l. ap (λ (w : ℕ). bit w i) (sym sum), λ i l. h.1 i l ∙ sym (borrows e i l)),
  )

  subtractor_iff : c 0 ≡ false → ((i : ℕ) → i < n → BitTied n less_than x y r c i) ↔ IsMinus
  subtractor_iff none = (
    λ h. turned_back.0 (adder.0 (λ i l. (turned i l).0 (h i l))),
    λ h i l. (turned i l).1 (adder.1 (turned_back.1 h) i l),
  )
    where
      adder : ((i : ℕ) → i < n → BitTied n two_or_more z y (bit x) c i) ↔ AddsUp
      adder = adder_iff n z y (bit x) c none

pub minus_borrows : (n : ℕ) → Carrying n less_than borrow_into (minus_modulo n)
minus_borrows n = record {
  word_lt = minus_modulo_lt n;
  carry_none = λ x y. borrow_zero x y;
  tied_iff = λ x y hx r c none. subtractor_iff n x y hx r c none;
}
