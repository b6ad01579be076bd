-- How many clauses a line has, and how many numbers its list: one law for every size that adds up, by how many literals the inputs of
-- each gate have.
use mathlib.Core.Path.{◌≡◌, refl, sym, ap, ap₂, ◌∙◌}
use mathlib.Core.Bool.{Bool, true, false, not, ◌||◌, cond, true≢false}
use mathlib.Core.List.{List, [], ◌∷◌, ◌++◌}
use Prim.Native.Nat.{ℕ, zero, suc, ◌+◌, ◌-◌, ◌*◌, ◌≤◌, ◌<◌}
use native.Mathlib.Nat.{add-zero, mul-zero, mul-add, add-mul, mul_assoc, mul_comm}
use native.Mathlib.Numerals.{add-one}
use native.Mathlib.Omega.{arith}
use borrow.Author.Tests.{lt-ltb, le-ltb}
use lib.Dec.{ltb}
use lib.IntN.{ℤ}
use lib.ListN.{length, length-append}
use Rattle.words.specs.Words.{bit, value}
use Rattle.words.specs.Below.{count, total, concat}
use Rattle.words.proofs.Below.{count_le}
use Rattle.trail.specs.declared.Line.{Line}
use Rattle.trail.specs.Kinds.{Kind, kind_of, uses_second, uses_constant}
use Rattle.trail.specs.Trail.{Trail, input_count, line_count, line_at}
use Rattle.trail.specs.WellFormed.{WellFormed}
use Rattle.trail.proofs.KindNumbers.{last_kind, never_both, known_within}
use Rattle.cnf.specs.Formulas.{numbers}
use Rattle.cnf.specs.Gates.{Input, literals, gate}
use Rattle.cnf.specs.Gates.Input.{known, literal}
use Rattle.cnf.proofs.Clauses.{numbers_append}
use Rattle.cnf.proofs.GateLemma.{length_gate, length_numbers_gate}
use Rattle.clause_lists.specs.Kinds.{Taken, is_filled, Carries, some_carries, gates, has_carries, taken_input, other_inputs, carry_inputs, parity}
use Rattle.clause_lists.specs.Kinds.Taken.{bit_at, no_bit}
use Rattle.clause_lists.specs.Kinds.Carries.{none, made}
use Rattle.clause_lists.specs.Variables.{Run, bit_literal, carry_literal}
use Rattle.clause_lists.specs.Variables.Run.{firstRun, secondRun}
use Rattle.clause_lists.specs.Lists.{inputs, next_clauses, bit_clauses, run_clauses, clauses_in, line_clauses, line_list}
use Rattle.clause_lists.specs.Sizes.{filled_bits, gates_as, gate_counts, size_of, clauses_of_gate, numbers_of_gate}

-- a at 0, and b at each of the m numbers after it
total_after : (m a b : ℕ) (f : ℕ → ℕ) → f 0 ≡ a → ((i : ℕ) → i < m → f (suc i) ≡ b) → total (suc m) f ≡ a + b * m
unfolding total
total_after zero a b f first rest = omega arith
total_after (suc m) a b f first rest =
    ap₂ ◌+◌ (total_after m a b f first (λ i l. rest i (omega arith))) (rest m (omega arith)) ∙ omega arith

-- a where the test is passed, and b elsewhere
total_choice : (n a b : ℕ) (p : ℕ → Bool) (f : ℕ → ℕ) → ((i : ℕ) → i < n → f i ≡ cond (p i) a b)
    → total n f ≡ a * count n p + b * (n - count n p)
unfolding total count
total_choice zero a b p f is = omega (arith, mul-zero a, mul-zero b)
total_choice (suc n) a b p f is =
    ap₂ ◌+◌ (total_choice n a b p f (λ i l. is i (omega arith))) (is n (omega arith)) ∙ at (p n)
  where
    at : (t : Bool) → a * count n p + b * (n - count n p) + cond t a b ≡ a * (count n p + value t) + b * (suc n - (count n p + value t))
    at true = omega (arith, mul-add a (count n p) 1, ap (λ (z : ℕ). b * z) left)
      where
        left : suc n - (count n p + 1) ≡ n - count n p
        left = omega arith
    at false = omega (arith, ap (λ (z : ℕ). a * z) (add-zero (count n p)), ap (λ (z : ℕ). b * z) left ∙ mul-add b (n - count n p) 1)
      where
        left : suc n - (count n p + 0) ≡ n - count n p + 1
        left = omega (arith, count_le n p)

-- a product with a sum of multiples of m and of 1
spread : (g a m b : ℕ) → g * (a * m + b) ≡ a * (g * m) + b * g
spread g a m b =
    mul-add g (a * m) b
    ∙ ap₂ ◌+◌ (sym (mul_assoc g a m) ∙ ap (λ (z : ℕ). z * m) (mul_comm g a) ∙ mul_assoc a g m) (mul_comm g b)

-- ---- the literals among a bit's inputs

-- in the lowest bit, where no zero is filled in; above it a kind with carries has one more
abbrev lowest : Bool → ℕ
lowest second = suc (value second)

-- a zero is filled in for no kind with a second operand or with carries
whole_bits : (k n r i : ℕ) → 1 ≤ k → k ≤ last_kind → (uses_second (kind_of k) || has_carries (kind_of k)) ≡ true
    → is_filled ((gates (kind_of k)).taken n r i) ≡ false
unfolding kind_of
whole_bits k n r i = never_both (λ q. uses_second q || has_carries q) (λ q. is_filled ((gates q).taken n r i)) refl k

module _ (l : Line) (word : ℕ → ℕ → ℤ) (carry : ℕ → ℤ) where
  taken_literals : (p : Taken) (is : List Input)
      → length (literals (taken_input p (word l.first) ∷ is)) ≡ value (not (is_filled p)) + length (literals is)
  unfolding literals
  taken_literals (bit_at p) is = omega arith
  taken_literals no_bit is = omega arith

  other_literals : (second constant : Bool) (i : ℕ) (is : List Input)
      → length (literals (cond second (literal (word l.second i) ∷ []) (cond constant (known (bit l.constant i) ∷ []) []) ++ is))
      ≡ value second + length (literals is)
  unfolding literals
  other_literals true constant i is = omega arith
  other_literals false true i is = omega arith
  other_literals false false i is = omega arith

  carry_literals : (cs : Carries) → (length (literals (carry_inputs cs carry 0)) ≡ 0) × ((i : ℕ) → length (literals (carry_inputs cs carry (suc i))) ≡ value (some_carries cs))
  unfolding literals
  carry_literals none = (refl, λ i. refl)
  carry_literals (made next carried) = (refl, λ i. refl)

  bit_literals : (n j i c : ℕ) → length (literals (carry_inputs (gates (kind_of l.kind)).carries carry i)) ≡ c
      → length (literals (inputs n j l word carry i))
      ≡ value (not (is_filled ((gates (kind_of l.kind)).taken n l.amount i))) + (value (uses_second (kind_of l.kind)) + c)
  bit_literals n j i c e =
      taken_literals ((gates (kind_of l.kind)).taken n l.amount i)
      (other_inputs (kind_of l.kind) l word i ++ carry_inputs (gates (kind_of l.kind)).carries carry i)
      ∙ ap (λ (z : ℕ). value (not (is_filled ((gates (kind_of l.kind)).taken n l.amount i))) + z)
      (other_literals (uses_second (kind_of l.kind)) (uses_constant (kind_of l.kind)) i (carry_inputs (gates (kind_of l.kind)).carries carry i)
      ∙ ap (λ (z : ℕ). value (uses_second (kind_of l.kind)) + z) e)

-- ---- any size of clauses that adds up

pub record Size (size : List (List ℤ) → ℕ) (ofGate : ℕ → ℕ) : Type 0 where
  none : size [] ≡ 0
  append : (cs ds : List (List ℤ)) → size (cs ++ ds) ≡ size cs + size ds
  of_gate : (f : List Bool → Bool) (is : List Input) (out : ℤ) → size (gate f is out) ≡ ofGate (length (literals is))

-- a run of width m + 2 without carries, c literals among the inputs of each bit; and with carries, c in its lowest bit
abbrev plain_size : (ℕ → ℕ) → ℕ → ℕ → ℕ
plain_size ofGate c m = ofGate c * suc (suc m)

abbrev carried_size : (ℕ → ℕ) → ℕ → ℕ → ℕ
carried_size ofGate c m = 2 * ofGate c + 2 * ofGate (suc c) * m + ofGate (suc c)

-- with or without a second operand, then with or without carries
abbrev run_size : (ℕ → ℕ) → Bool → Bool → ℕ → ℕ → ℕ
run_size ofGate false false m filled = ofGate 0 * filled + ofGate 1 * (suc (suc m) - filled)
run_size ofGate true false m filled = plain_size ofGate 2 m
run_size ofGate second true m filled = carried_size ofGate (lowest second) m

doubled : (g k : ℕ) → g * k * 2 ≡ g * (2 * k)
doubled g k = mul_assoc g k 2 ∙ ap (λ (z : ℕ). g * z) (mul_comm k 2)

carried_runs : (g h m : ℕ) → (2 * g + 2 * h * m + h) * 2 ≡ g * 4 + h * (4 * suc (suc m) - 6)
carried_runs g h m = omega (arith, mul_assoc 2 h m, ap (λ (z : ℕ). h * z) (above m) ∙ spread h 4 m 2)
  where
    above : (m : ℕ) → 4 * suc (suc m) - 6 ≡ 4 * m + 2
    above m = omega arith

both_runs : (ofGate : ℕ → ℕ) (second carries : Bool) (m filled : ℕ)
    → run_size ofGate second carries m filled * 2 ≡ size_of ofGate (gates_as second carries (suc (suc m)) filled)
both_runs ofGate false false m filled = omega (arith, doubled (ofGate 0) filled, doubled (ofGate 1) (suc (suc m) - filled))
both_runs ofGate true false m filled = doubled (ofGate 2) (suc (suc m)) ∙ omega arith
both_runs ofGate false true m filled = carried_runs (ofGate 1) (ofGate 2) m ∙ omega arith
both_runs ofGate true true m filled = carried_runs (ofGate 2) (ofGate 3) m ∙ omega arith

module _ {size : List (List ℤ) → ℕ} {ofGate : ℕ → ℕ} (sized : Size size ofGate) where
  size_concat : (n : ℕ) (f : ℕ → List (List ℤ)) → size (concat n f) ≡ total n (λ i. size (f i))
  unfolding concat total
  size_concat zero f = sized.none
  size_concat (suc n) f = sized.append (concat n f) (f n) ∙ ap (λ (z : ℕ). z + size (f n)) (size_concat n f)

  module _ (l : Line) (word : ℕ → ℕ → ℤ) (carry : ℕ → ℤ) (least : 1 ≤ l.kind) (most : l.kind ≤ last_kind) where
    abbrev q : Kind
    q = kind_of l.kind

    abbrev carries : Carries
    carries = (gates q).carries

    abbrev filled : ℕ → ℕ → Bool
    filled n i = is_filled ((gates q).taken n l.amount i)

    abbrev c : ℕ
    c = lowest (uses_second q)

    next_size : (n j i : ℕ) (cs : Carries)
        → size (next_clauses n j l word carry cs i) ≡ cond (some_carries cs) (ofGate (length (literals (inputs n j l word carry i)))) 0
    next_size n j i none = sized.none
    next_size n j i (made next carried) = sized.of_gate next (inputs n j l word carry i) (carry (i + 1))

    -- a bit's size, d literals among its inputs: the result's gate, and the next carry's
    bit_size : (n j i d : ℕ) (more : Bool) → length (literals (inputs n j l word carry i)) ≡ d → ltb (i + 1) n ≡ more
        → size (bit_clauses n j l word carry i) ≡ ofGate d + cond more (cond (some_carries carries) (ofGate d) 0) 0
    unfolding bit_clauses
    bit_size n j i d more e h =
        sized.append (gate parity (inputs n j l word carry i) (word j i)) (cond (ltb (i + 1) n) (next_clauses n j l word carry carries i) [])
        ∙ ap₂ ◌+◌ (sized.of_gate parity (inputs n j l word carry i) (word j i)) (out (ltb (i + 1) n))
        ∙ ap₂ (λ (z : ℕ) (b : Bool). ofGate z + cond b (cond (some_carries carries) (ofGate z) 0) 0) e h
      where
        out : (b : Bool)
            → size (cond b (next_clauses n j l word carry carries i) [])
            ≡ cond b (cond (some_carries carries) (ofGate (length (literals (inputs n j l word carry i)))) 0) 0
        out true = next_size n j i carries
        out false = sized.none

    -- ---- a kind with a second operand or carries, all bits alike but for the carries

    module _ (whole : (uses_second q || has_carries q) ≡ true) where
      all_literals : (n j i k : ℕ) → length (literals (carry_inputs carries carry i)) ≡ k → length (literals (inputs n j l word carry i)) ≡ c + k
      all_literals n j i k e =
          bit_literals l word carry n j i k e
          ∙ ap (λ (b : Bool). value (not b) + (value (uses_second q) + k)) (whole_bits l.kind n l.amount i least most whole)
          ∙ omega arith

      whole_size : (m j : ℕ)
          → size (run_clauses (suc (suc m)) j l word carry) ≡ cond (has_carries q) (carried_size ofGate c m) (plain_size ofGate c m)
      unfolding run_clauses total
      whole_size m j =
          size_concat (suc (suc m)) (bit_clauses (suc (suc m)) j l word carry)
          ∙ ap₂ ◌+◌
          (total_after m _ _ (λ i. size (bit_clauses (suc (suc m)) j l word carry i))
          (bit_size (suc (suc m)) j 0 c true low (lt-ltb 1 (suc (suc m)) (omega arith)))
          (λ i h. bit_size (suc (suc m)) j (suc i) high true (above i) (lt-ltb (suc i + 1) (suc (suc m)) (omega arith))))
          (bit_size (suc (suc m)) j (suc m) high false (above m) (le-ltb (suc m + 1) (suc (suc m)) (omega arith)))
          ∙ added (has_carries q)
        where
          high : ℕ
          high = c + value (has_carries q)

          low : length (literals (inputs (suc (suc m)) j l word carry 0)) ≡ c
          low = all_literals (suc (suc m)) j 0 0 (carry_literals l word carry carries).0 ∙ omega arith

          above : (i : ℕ) → length (literals (inputs (suc (suc m)) j l word carry (suc i))) ≡ high
          above i = all_literals (suc (suc m)) j (suc i) (value (has_carries q)) ((carry_literals l word carry carries).1 i)

          added : (b : Bool)
              → ofGate c + cond b (ofGate c) 0 + (ofGate (c + value b) + cond b (ofGate (c + value b)) 0) * m + (ofGate (c + value b) + 0)
              ≡ cond b (carried_size ofGate c m) (plain_size ofGate c m)
          added true =
              ap (λ (z : ℕ). ofGate c + ofGate c + (ofGate z + ofGate z) * m + (ofGate z + 0)) (add-one c)
              ∙ omega (arith, add-mul (ofGate (suc c)) (ofGate (suc c)) m, mul_assoc 2 (ofGate (suc c)) m)
          added false =
              ap (λ (z : ℕ). ofGate c + 0 + (ofGate z + 0) * m + (ofGate z + 0)) (add-zero c)
              ∙ omega (arith, spread (ofGate c) 1 m 2, mul-add (ofGate c) m 2, add-mul (ofGate c) 0 m)

    -- ---- a kind with neither: one literal among the inputs of each bit, or none where a zero is filled in

    module _ (one : uses_second q ≡ false) (plain : has_carries q ≡ false) where
      one_literal : (n j i : ℕ) → length (literals (inputs n j l word carry i)) ≡ value (not (filled n i))
      unfolding literals
      one_literal n j i =
          bit_literals l word carry n j i 0 (none_enter carries plain i)
          ∙ ap (λ (b : Bool). value (not (filled n i)) + (value b + 0)) one
          ∙ omega arith
        where
          none_enter : (cs : Carries) → some_carries cs ≡ false → (i : ℕ) → length (literals (carry_inputs cs carry i)) ≡ 0
          none_enter none e i = refl
          none_enter (made next value) e i = absurd (true≢false e)

      filled_size : (n j : ℕ)
          → size (run_clauses n j l word carry) ≡ ofGate 0 * filled_bits n l + ofGate 1 * (n - filled_bits n l)
      unfolding run_clauses filled_bits
      filled_size n j =
          size_concat n (bit_clauses n j l word carry)
          ∙ total_choice n (ofGate 0) (ofGate 1) (filled n) (λ i. size (bit_clauses n j l word carry i))
          (λ i h.
          bit_size n j i (value (not (filled n i))) (ltb (i + 1) n) (one_literal n j i) refl
          ∙ ap (λ (b : Bool). ofGate (value (not (filled n i))) + cond (ltb (i + 1) n) (cond b (ofGate (value (not (filled n i)))) 0) 0) plain
          ∙ at (filled n i) (ltb (i + 1) n))
        where
          at : (b more : Bool) → ofGate (value (not b)) + cond more 0 0 ≡ cond b (ofGate 0) (ofGate 1)
          at true true = omega arith
          at true false = omega arith
          at false true = omega arith
          at false false = omega arith

    run_size_lem : (m j : ℕ)
        → size (run_clauses (suc (suc m)) j l word carry) ≡ run_size ofGate (uses_second q) (has_carries q) m (filled_bits (suc (suc m)) l)
    run_size_lem m j = at (uses_second q) (has_carries q) refl refl
      where
        at : (second carried : Bool) → uses_second q ≡ second → has_carries q ≡ carried
            → size (run_clauses (suc (suc m)) j l word carry) ≡ run_size ofGate second carried m (filled_bits (suc (suc m)) l)
        at false false e f = filled_size e f (suc (suc m)) j
        at true carried e f = whole_size (rw e) m j ∙ chosen carried e f
          where
            chosen : (carried : Bool) → uses_second q ≡ true → has_carries q ≡ carried
                → cond (has_carries q) (carried_size ofGate c m) (plain_size ofGate c m)
                ≡ run_size ofGate true carried m (filled_bits (suc (suc m)) l)
            chosen true e f = rw (e, f)
            chosen false e f = rw (e, f)
        at false true e f = whole_size (rw (e, f)) m j ∙ rw (e, f)

  line_size : {t : Trail} → WellFormed t → (k : ℕ) → k < line_count t → size (line_clauses t k) ≡ size_of ofGate (gate_counts t.width (line_at t k))
  unfolding line_clauses clauses_in
  line_size {t} good k h =
      sized.append (clauses_in t firstRun k) (clauses_in t secondRun k)
      ∙ ap₂ ◌+◌ (one_run firstRun) (one_run secondRun)
      ∙ omega arith
      ∙ both_runs ofGate (uses_second (kind_of l.kind)) (has_carries (kind_of l.kind)) (t.width - 2) (filled_bits (suc (suc (t.width - 2))) l)
      ∙ ap (λ (z : ℕ). size_of ofGate (gate_counts z l)) (sym width)
    where
      l : Line
      l = line_at t k

      within : (1 ≤ l.kind) × (l.kind ≤ last_kind)
      within = known_within l.kind (good.lines_right k h).kind_known

      width : t.width ≡ suc (suc (t.width - 2))
      width = omega (arith, good.width_least)

      one_run : (run : Run)
          → size (clauses_in t run k)
          ≡ run_size ofGate (uses_second (kind_of l.kind)) (has_carries (kind_of l.kind)) (t.width - 2) (filled_bits (suc (suc (t.width - 2))) l)
      one_run run =
          ap (λ (z : ℕ). size (run_clauses z (input_count t + k) l (bit_literal t run) (carry_literal t run k))) width
          ∙ run_size_lem l (bit_literal t run) (carry_literal t run k) within.0 within.1 (t.width - 2) (input_count t + k)

-- ---- clauses, and numbers

clauses_sized : Size length clauses_of_gate
clauses_sized = record { none = refl; append = length-append; of_gate = length_gate }

numbers_sized : Size (λ cs. length (numbers cs)) numbers_of_gate
unfolding numbers
numbers_sized = record {
  none = refl;
  append = λ cs ds. ap length (numbers_append cs ds) ∙ length-append (numbers cs) (numbers ds);
  of_gate = length_numbers_gate;
}

module _ {t : Trail} (good : WellFormed t) (k : ℕ) (h : k < line_count t) where
  pub line_clauses_length : length (line_clauses t k) ≡ size_of clauses_of_gate (gate_counts t.width (line_at t k))
  line_clauses_length = line_size clauses_sized good k h

  pub line_list_length : length (line_list t k) ≡ size_of numbers_of_gate (gate_counts t.width (line_at t k))
  unfolding line_list
  line_list_length = line_size numbers_sized good k h
