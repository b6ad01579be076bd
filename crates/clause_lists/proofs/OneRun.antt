-- What satisfies one run's clauses of one line, whatever its literals: the words that they read are right, and the carries.
use mathlib.Core.Path.{◌≡◌, refl, sym, ap, ap₂, subst, ◌∙◌}
use mathlib.Core.Logic.{◌↔◌}
use mathlib.Core.Bool.{Bool, true, false, ◌&&◌, cond, xor, and-eq-true_iff, true≢false, false≢true}
use mathlib.Core.List.{List, [], ◌∷◌, ◌++◌, map}
use Prim.Native.Nat.{ℕ, zero, suc, ◌+◌, ◌-◌, ◌^◌, ◌≤◌, ◌<◌}
use native.Mathlib.Nat.{add_comm}
use native.Mathlib.Numerals.{add-one}
use native.Mathlib.Omega.{arith}
use borrow.Author.Tests.{ltb-true, ltb-false, lt-ltb}
use lib.Dec.{ltb}
use lib.IntN.{ℤ}
use Rattle.words.specs.Words.{bit, bit_below, from_bits}
use Rattle.words.specs.Below.{concat}
use Rattle.words.proofs.Bits.{from_bits_lt, bit_from_bits, bit_past, bit-xor, word_ext}
use Rattle.words.proofs.Rotations.{bit_rotate_left, bit_rotate_right}
use Rattle.words.proofs.Shifts.{bit_shift_left, bit_shift_right}
use Rattle.trail.specs.declared.Line.{Line}
use Rattle.trail.specs.Kinds.{Kind, kind_of, uses_second, uses_amount, makes_as, makes}
use Rattle.trail.specs.Kinds.Kind.{xorWords, xorConstant, rotatesLeft, rotatesRight, addWords, addConstant, shiftsLeft, shiftsRight, subtractWords, unknown}
use Rattle.trail.specs.WellFormed.{WellFormedLine}
use Rattle.trail.proofs.Makes.{makes_as_lem, makes_word}
use Rattle.cnf.specs.Formulas.{holds, all_hold}
use Rattle.cnf.specs.Gates.{Input, gate}
use Rattle.cnf.proofs.Clauses.{Nonzero, all_hold_append, all_hold_concat}
use Rattle.cnf.proofs.Rows.{input_value}
use Rattle.cnf.proofs.GateLemma.{gate_iff}
use Rattle.clause_lists.specs.Kinds.{Taken, Carries, some_carries, gates, has_carries, taken_input, carry_input, inputs_as, parity}
use Rattle.clause_lists.specs.Kinds.Taken.{bit_at, no_bit}
use Rattle.clause_lists.specs.Kinds.Carries.{none, made}
use Rattle.clause_lists.specs.Lists.{inputs, next_clauses, bit_clauses, run_clauses}
use Rattle.clause_lists.specs.Assignments.{second_summand, carried}
use Rattle.clause_lists.proofs.Adder.{parity_one, parity_two, BitTied, Carrying, sum_carries, minus_borrows}
use Rattle.clause_lists.proofs.RunLiterals.{Within, taken_within, Literals, every_input}

-- the word of n bits that literals read
abbrev pub read_word : (ℕ → Bool) → ℕ → (ℕ → ℤ) → ℕ
read_word v n lits = from_bits n (λ i. holds v (lits i))

-- a run of a line of width n that makes word j is right: its word is made of its operands' words, and its carries are the run's
pub record RunRight (v : ℕ → Bool) (n j : ℕ) (l : Line) (word : ℕ → ℕ → ℤ) (carry : ℕ → ℤ) : Type 0 where
  pub made : read_word v n (word j) ≡ makes n l (read_word v n (word l.first)) (read_word v n (word l.second))
  pub carries : has_carries (kind_of l.kind) ≡ true → (i : ℕ) → 1 ≤ i → i < n
      → holds v (carry i)
      ≡ carried (gates (kind_of l.kind)).carries (read_word v n (word l.first)) (second_summand l (read_word v n (word l.second))) i

module _ (v : ℕ → Bool) {n j : ℕ} {l : Line} {word : ℕ → ℕ → ℤ} {carry : ℕ → ℤ}
    (good : WellFormedLine n j l) (nonzero : Literals Nonzero n j l word carry) where
  abbrev read_at : ℕ → ℕ
  read_at p = read_word v n (word p)

  abbrev x : ℕ
  x = read_at l.first

  abbrev y : ℕ
  y = read_at l.second

  read_bit : (p i : ℕ) → i < n → holds v (word p i) ≡ bit (read_at p) i
  read_bit p i h = sym (bit_from_bits n (λ i. holds v (word p i)) i h)

  read_lt : (p : ℕ) → read_at p < 2 ^ n
  read_lt p = from_bits_lt n (λ i. holds v (word p i))

  abbrev values_as : Kind → ℕ → List Bool
  values_as q i = map (input_value v) (inputs_as q n l word carry i)

  -- what bit i's clauses say: of the result, and of the next carry
  abbrev ResultIs : List Bool → ℕ → Type 0
  ResultIs values i = holds v (word j i) ≡ parity values

  abbrev NextIs : Carries → List Bool → ℕ → Type 0
  NextIs none values i = Unit {0}
  NextIs (made next value) values i = suc i < n → holds v (carry (i + 1)) ≡ next values

  abbrev BitRight : Kind → ℕ → Type 0
  BitRight q i = ResultIs (values_as q i) i × NextIs (gates q).carries (values_as q i) i

  bit_iff : (i : ℕ) → i < n → (all_hold v (bit_clauses n j l word carry i) ≡ true) ↔ BitRight (kind_of l.kind) i
  unfolding bit_clauses all_hold
  bit_iff i h = (
    λ a. let both = parts.0 (sym apart ∙ a) in (result.0 both.0, (next cs refl).0 both.1),
    λ r. apart ∙ parts.1 (result.1 r.0, (next cs refl).1 r.1),
  )
    where
      is : List Input
      is = inputs n j l word carry i

      cs : Carries
      cs = (gates (kind_of l.kind)).carries

      ones : List (List ℤ)
      ones = gate parity is (word j i)

      others : Carries → List (List ℤ)
      others cs = cond (ltb (i + 1) n) (next_clauses n j l word carry cs i) []

      apart : all_hold v (ones ++ others cs) ≡ (all_hold v ones && all_hold v (others cs))
      apart = all_hold_append v ones (others cs)

      parts : ((all_hold v ones && all_hold v (others cs)) ≡ true) ↔ ((all_hold v ones ≡ true) × (all_hold v (others cs) ≡ true))
      parts = and-eq-true_iff (all_hold v ones) (all_hold v (others cs))

      result : (all_hold v ones ≡ true) ↔ (holds v (word j i) ≡ parity (map (input_value v) is))
      result = gate_iff v parity is (word j i) (every_input nonzero i h) (nonzero.result i h)

      none_holds : (b : Bool) → all_hold v (cond b [] []) ≡ true
      none_holds true = refl
      none_holds false = refl

      next : (ds : Carries) → cs ≡ ds → (all_hold v (others ds) ≡ true) ↔ NextIs ds (map (input_value v) is) i
      next none e = (λ a. tt, λ r. none_holds (ltb (i + 1) n))
      next (made f value) e = at (ltb (i + 1) n) refl
        where
          carry_nonzero : suc i < n → Nonzero (carry (i + 1))
          carry_nonzero more = subst (λ (z : ℕ). Nonzero (carry z)) (sym (add-one i)) (nonzero.carries (ap some_carries e) i more)

          ties : suc i < n → (all_hold v (gate f is (carry (i + 1))) ≡ true) ↔ (holds v (carry (i + 1)) ≡ f (map (input_value v) is))
          ties more = gate_iff v f is (carry (i + 1)) (every_input nonzero i h) (carry_nonzero more)

          at : (b : Bool) → ltb (i + 1) n ≡ b
              → (all_hold v (cond b (gate f is (carry (i + 1))) []) ≡ true) ↔ (suc i < n → holds v (carry (i + 1)) ≡ f (map (input_value v) is))
          at true g = let more : suc i < n = omega (arith, ltb-true (i + 1) n g) in (λ a _. (ties more).0 a, λ r. (ties more).1 (r more))
          at false g = (λ a more. absurd (true≢false (sym (lt-ltb (i + 1) n (omega arith)) ∙ g)), λ r. refl)

  -- ---- by kinds

  abbrev CarriesAre : Carries → ℕ → Type 0
  CarriesAre none s = Unit {0}
  CarriesAre (made next value) s = (i : ℕ) → 1 ≤ i → i < n → holds v (carry i) ≡ value x s i

  abbrev RightAs : Kind → Type 0
  RightAs q = (read_at j ≡ makes_as q n l x y) × CarriesAre (gates q).carries (cond (uses_second q) y l.constant)

  abbrev KindIff : Kind → Type 0
  KindIff q = ((i : ℕ) → i < n → BitRight q i) ↔ RightAs q

  fits : (q : Kind) → kind_of l.kind ≡ q → makes_as q n l x y < 2 ^ n
  fits q e = rw (← makes_as_lem q n l x y e) (makes_word good x y (read_lt l.first) (read_lt l.second))

  -- no carries: the result's bits are those of the word made
  plain_iff : (m : ℕ) (values : ℕ → List Bool) → m < 2 ^ n → ((i : ℕ) → i < n → parity (values i) ≡ bit m i)
      → ((i : ℕ) → i < n → ResultIs (values i) i × Unit {0}) ↔ ((read_at j ≡ m) × Unit {0})
  plain_iff m values fits e = (
    λ h. (word_ext n (read_at j) m (read_lt j) fits (λ i k. sym (read_bit j i k) ∙ (h i k).0 ∙ e i k), tt),
    λ h i k. (read_bit j i k ∙ ap (λ (z : ℕ). bit z i) h.0 ∙ sym (e i k), tt),
  )

  abbrev carry_value : ℕ → Bool
  carry_value i = input_value v (carry_input carry i)

  carry_value_lem : (i : ℕ) → 1 ≤ i → carry_value i ≡ holds v (carry i)
  unfolding input_value
  carry_value_lem zero least = absurd (omega arith)
  carry_value_lem (suc i) least = refl

  carry_next : (i : ℕ) → carry_value (suc i) ≡ holds v (carry (i + 1))
  carry_next i = carry_value_lem (suc i) (omega arith) ∙ ap (λ (z : ℕ). holds v (carry z)) (sym (add-one i))

  no_carry : carry_value 0 ≡ false
  unfolding input_value
  no_carry = refl

  -- an addition of the summand s, or a subtraction of it: a word whose carries or borrows are tied bit by bit
  module _ {next : List Bool → Bool} {value : ℕ → ℕ → ℕ → Bool} {result : ℕ → ℕ → ℕ} (law : Carrying n next value result)
      (s : ℕ) (values : ℕ → List Bool) (are : (i : ℕ) → i < n → values i ≡ bit x i ∷ bit s i ∷ carry_value i ∷ []) where
    tied_iff : (i : ℕ) → i < n
        → (ResultIs (values i) i × NextIs (made next value) (values i) i)
        ↔ BitTied n next x s (λ i. holds v (word j i)) carry_value i
    tied_iff i h = (
      λ r. (r.0 ∙ ap parity (are i h), λ more. carry_next i ∙ r.1 more ∙ ap next (are i h)),
      λ r. (r.0 ∙ ap parity (sym (are i h)), λ more. sym (carry_next i) ∙ r.1 more ∙ ap next (sym (are i h))),
    )

    abbrev BitsRight : Type 0
    BitsRight =
        ((i : ℕ) → i < n → holds v (word j i) ≡ bit (result x s) i) × ((i : ℕ) → i < n → carry_value i ≡ value x s i)

    bits_right : BitsRight ↔ ((read_at j ≡ result x s) × CarriesAre (made next value) s)
    bits_right = (
      λ h. (
        word_ext n (read_at j) (result x s) (read_lt j) (law.word_lt x s) (λ i k. sym (read_bit j i k) ∙ h.0 i k),
        λ i least k. sym (carry_value_lem i least) ∙ h.1 i k,
      ),
      λ h. (λ i k. read_bit j i k ∙ ap (λ (z : ℕ). bit z i) h.0, all_carries h.1),
    )
      where
        all_carries : ((i : ℕ) → 1 ≤ i → i < n → holds v (carry i) ≡ value x s i) → (i : ℕ) → i < n → carry_value i ≡ value x s i
        all_carries h zero k = no_carry ∙ sym (law.carry_none x s)
        all_carries h (suc i) k = carry_value_lem (suc i) (omega arith) ∙ h (suc i) (omega arith) k

    carried_iff : ((i : ℕ) → i < n → ResultIs (values i) i × NextIs (made next value) (values i) i)
        ↔ ((read_at j ≡ result x s) × CarriesAre (made next value) s)
    carried_iff = (
      λ h. bits_right.0 (bits.0 (λ i k. (tied_iff i k).0 (h i k))),
      λ h i k. (tied_iff i k).1 (bits.1 (bits_right.1 h) i k),
    )
      where
        bits : ((i : ℕ) → i < n → BitTied n next x s (λ i. holds v (word j i)) carry_value i) ↔ BitsRight
        bits = law.tied_iff x s (read_lt l.first) (λ i. holds v (word j i)) carry_value no_carry

  -- the values that the inputs of bit i have, by the bit of the first operand that it takes
  abbrev taken_value : Taken → Bool
  taken_value (bit_at p) = bit x p
  taken_value no_bit = false

  taken_value_lem : (p : Taken) → Within n p → input_value v (taken_input p (word l.first)) ≡ taken_value p
  unfolding input_value
  taken_value_lem (bit_at p) within = read_bit l.first p within
  taken_value_lem no_bit within = refl

  -- a kind whose bits are those of the first operand, in other places, or filled zeros
  abbrev taken_at : Kind → ℕ → Taken
  taken_at q i = (gates q).taken n l.amount i

  moved_iff : (q : Kind) → kind_of l.kind ≡ q → ((i : ℕ) → i < n → taken_value (taken_at q i) ≡ bit (makes_as q n l x y) i)
      → ((i : ℕ) → i < n → ResultIs (input_value v (taken_input (taken_at q i) (word l.first)) ∷ []) i × Unit {0})
      ↔ ((read_at j ≡ makes_as q n l x y) × Unit {0})
  moved_iff q e is =
      plain_iff (makes_as q n l x y) (λ i. input_value v (taken_input (taken_at q i) (word l.first)) ∷ []) (fits q e)
      (λ i h.
      parity_one (input_value v (taken_input (taken_at q i) (word l.first)))
      ∙ taken_value_lem (taken_at q i) (taken_within q n l.amount i h)
      ∙ is i h)

  left_value : (i : ℕ) → taken_value (taken_at shiftsLeft i) ≡ bit_below l.amount x i
  unfolding bit_below
  left_value i = at (ltb i l.amount)
    where
      at : (b : Bool) → taken_value (cond b no_bit (bit_at (i - l.amount))) ≡ cond b false (bit x (i - l.amount))
      at true = refl
      at false = refl

  right_value : (i : ℕ) → taken_value (taken_at shiftsRight i) ≡ bit x (l.amount + i)
  right_value i = at (ltb (i + l.amount) n) refl
    where
      at : (b : Bool) → ltb (i + l.amount) n ≡ b → taken_value (cond b (bit_at (i + l.amount)) no_bit) ≡ bit x (l.amount + i)
      at true e = ap (bit x) (add_comm i l.amount)
      at false e = sym (bit_past n x (l.amount + i) (read_lt l.first) (omega (arith, ltb-false (i + l.amount) n e)))

  -- of two words
  words_read : (i : ℕ) → i < n → values_as addWords i ≡ bit x i ∷ bit y i ∷ carry_value i ∷ []
  unfolding input_value
  words_read i h =
      ap₂ (λ (a b : Bool). a ∷ b ∷ carry_value i ∷ []) (read_bit l.first i h) (read_bit l.second i h)

  kind_iff : (q : Kind) → kind_of l.kind ≡ q → KindIff q
  unfolding input_value
  kind_iff xorWords e =
      plain_iff (makes_as xorWords n l x y) (values_as xorWords) (fits xorWords e)
      (λ i h.
      parity_two (holds v (word l.first i)) (holds v (word l.second i))
      ∙ ap₂ xor (read_bit l.first i h) (read_bit l.second i h)
      ∙ sym (bit-xor x y i))
  kind_iff xorConstant e =
      plain_iff (makes_as xorConstant n l x y) (values_as xorConstant) (fits xorConstant e)
      (λ i h.
      parity_two (holds v (word l.first i)) (bit l.constant i)
      ∙ ap (λ (b : Bool). xor b (bit l.constant i)) (read_bit l.first i h)
      ∙ sym (bit-xor x l.constant i))
  kind_iff rotatesLeft e =
      moved_iff rotatesLeft e
      (λ i h. sym (bit_rotate_left n l.amount x i (good.amount_most (ap uses_amount e)) (read_lt l.first) h))
  kind_iff rotatesRight e =
      moved_iff rotatesRight e
      (λ i h.
      sym
      (bit_rotate_right n l.amount x i (good.amount_least (ap uses_amount e)) (good.amount_most (ap uses_amount e))
      (read_lt l.first) h))
  kind_iff addWords e = carried_iff (sum_carries n) y (values_as addWords) words_read
  kind_iff addConstant e =
      carried_iff (sum_carries n) l.constant (values_as addConstant)
      (λ i h. ap (λ (b : Bool). b ∷ bit l.constant i ∷ carry_value i ∷ []) (read_bit l.first i h))
  kind_iff shiftsLeft e = moved_iff shiftsLeft e (λ i h. left_value i ∙ sym (bit_shift_left n l.amount x i h))
  kind_iff shiftsRight e = moved_iff shiftsRight e (λ i h. right_value i ∙ sym (bit_shift_right l.amount x i))
  kind_iff subtractWords e = carried_iff (minus_borrows n) y (values_as subtractWords) words_read
  kind_iff unknown e = absurd (good.kind_known e)

  -- the carries' values, as the statement has them
  carries_iff : (cs : Carries) (s : ℕ)
      → CarriesAre cs s ↔ (some_carries cs ≡ true → (i : ℕ) → 1 ≤ i → i < n → holds v (carry i) ≡ carried cs x s i)
  carries_iff none s = (λ _ e. absurd (false≢true e), λ _. tt)
  carries_iff (made next value) s = (λ h _. h, λ h. h refl)

  -- THE LINE LEMMA, for one run
  pub run_iff : (all_hold v (run_clauses n j l word carry) ≡ true) ↔ RunRight v n j l word carry
  unfolding run_clauses makes
  run_iff = (
    λ a.
        let r = by_kind.0 (λ i h. (bit_iff i h).0 (bits.0 a i h)) in
        record { made = r.0; carries = values.0 r.1 },
    λ r. bits.1 (λ i h. (bit_iff i h).1 (by_kind.1 (r.made, values.1 r.carries) i h)),
  )
    where
      q : Kind
      q = kind_of l.kind

      by_kind : KindIff q
      by_kind = kind_iff q refl

      values : CarriesAre (gates q).carries (second_summand l y)
          ↔ (has_carries q ≡ true → (i : ℕ) → 1 ≤ i → i < n → holds v (carry i) ≡ carried (gates q).carries x (second_summand l y) i)
      values = carries_iff (gates q).carries (second_summand l y)

      bits : (all_hold v (concat n (bit_clauses n j l word carry)) ≡ true)
          ↔ ((i : ℕ) → i < n → all_hold v (bit_clauses n j l word carry i) ≡ true)
      bits = all_hold_concat v n (bit_clauses n j l word carry)
