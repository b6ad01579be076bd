-- All assignments and all starting values by number: each has one number. So where the two maps are inverse to each other, the
-- satisfying assignments and the starting values that follow are equally many.
use mathlib.Core.Path.{◌≡◌, sym, ap, ap₂, ◌∙◌}
use mathlib.Core.Bool.{Bool, true, false}
use mathlib.Core.List.{List}
use Prim.Native.Nat.{ℕ, ◌+◌, ◌*◌, ◌/◌, ◌%◌, ◌^◌, ◌≤◌, ◌<◌}
use native.Mathlib.Nat.{mul_comm, mod-lt, div-lt_iff_lt-mul, div-add-mod'}
use native.Mathlib.Omega.{arith}
use lib.Arith.{digits_lt, digits_div, digits_mod}
use lib.IntN.{ℤ}
use lib.ListN.{length, get_or}
use lib.Seq.{ext_get_or}
use Rattle.words.specs.Words.{bit, from_bits}
use Rattle.words.specs.Below.{tabulate}
use Rattle.words.proofs.Below.{length_tabulate, get_d_tabulate}
use Rattle.words.proofs.Bits.{from_bits_lt, bit_from_bits, from_bits_cong, from_bits_bit}
use Rattle.words.proofs.Bijection.{Leads, equal_counts}
use Rattle.trail.specs.Trail.{Trail, input_count}
use Rattle.trail.specs.Runs.{is_start, follows}
use Rattle.trail.proofs.Runs.{start_length, start_word, start_yes}
use Rattle.cnf.specs.Formulas.{variable, satisfies}
use Rattle.clause_lists.specs.Variables.{variables}
use Rattle.clause_lists.specs.Assignments.{spelled, assignment_from, assignment_at, start_at, satisfying_count, following_count}
use Rattle.clause_lists.specs.Pairing.{IsAssignment, GivesBack, SpellsBack, MapsInverse, EquallyMany}

module _ (t : Trail) where
  -- ---- assignments

  assignment_number : List Bool → ℕ
  assignment_number a = from_bits (variables t) (λ k. get_or a k false)

  length_assignment_at : (q : ℕ) → IsAssignment t (assignment_at t q)
  unfolding assignment_at
  length_assignment_at q = length_tabulate (variables t) (bit q)

  assignment_of_number : (a : List Bool) → IsAssignment t a → assignment_at t (assignment_number a) ≡ a
  unfolding assignment_at assignment_number
  assignment_of_number a e =
      ext_get_or false (tabulate (variables t) (bit (assignment_number a))) a (length_assignment_at (assignment_number a) ∙ sym e)
      (λ k l.
      let here : k < variables t = omega (arith, length_assignment_at (assignment_number a)) in
      get_d_tabulate (variables t) (bit (assignment_number a)) k false here
      ∙ bit_from_bits (variables t) (λ k. get_or a k false) k here)

  number_of_assignment : (q : ℕ) → q < 2 ^ variables t → assignment_number (assignment_at t q) ≡ q
  unfolding assignment_at assignment_number
  number_of_assignment q h =
      from_bits_cong (variables t) (λ k. get_or (tabulate (variables t) (bit q)) k false) (bit q)
      (λ k l. get_d_tabulate (variables t) (bit q) k false l)
      ∙ from_bits_bit (variables t) q h

  -- ---- starting values

  -- bit k of a start's number is bit k % n of word k / n
  start_number : List ℕ → ℕ
  start_number x = from_bits (t.width * input_count t) (λ k. bit (get_or x (k / t.width) 0) (k % t.width))

  abbrev word_at : ℕ → ℕ → ℕ
  word_at q j = from_bits t.width (λ i. bit q (t.width * j + i))

  get_or_start_at : (q j : ℕ) → j < input_count t → get_or (start_at t q) j 0 ≡ word_at q j
  unfolding start_at
  get_or_start_at q j h = get_d_tabulate (input_count t) (word_at q) j 0 h

  length_start_at : (q : ℕ) → length (start_at t q) ≡ input_count t
  unfolding start_at
  length_start_at q = length_tabulate (input_count t) (word_at q)

  start_at_start : (q : ℕ) → is_start t (start_at t q) ≡ true
  start_at_start q =
      start_yes t (start_at t q) (length_start_at q)
      (λ j h. rw (get_or_start_at q j h) (from_bits_lt t.width (λ i. bit q (t.width * j + i))))

  -- bit i of word j has a place of its own
  place_lt : (j i : ℕ) → j < input_count t → i < t.width → t.width * j + i < t.width * input_count t
  place_lt j i hj hi =
      rw (mul_comm t.width j, mul_comm t.width (input_count t)) (digits_lt {q = j} {m = input_count t} hj hi)

  place_word : (j i : ℕ) → i < t.width → (t.width * j + i) / t.width ≡ j
  place_word j i h = ap (λ (z : ℕ). (z + i) / t.width) (mul_comm t.width j) ∙ digits_div j h

  place_bit : (j i : ℕ) → i < t.width → (t.width * j + i) % t.width ≡ i
  place_bit j i h = ap (λ (z : ℕ). (z + i) % t.width) (mul_comm t.width j) ∙ digits_mod j h

  start_of_number : (x : List ℕ) → is_start t x ≡ true → start_at t (start_number x) ≡ x
  unfolding start_number
  start_of_number x start =
      ext_get_or 0 (start_at t (start_number x)) x (length_start_at (start_number x) ∙ sym (start_length t x start)) word
    where
      places : ℕ → Bool
      places k = bit (get_or x (k / t.width) 0) (k % t.width)

      word : (j : ℕ) → j < length (start_at t (start_number x)) → get_or (start_at t (start_number x)) j 0 ≡ get_or x j 0
      word j l =
          get_or_start_at (start_number x) j here
          ∙ from_bits_cong t.width (λ i. bit (start_number x) (t.width * j + i)) (bit (get_or x j 0))
          (λ i m.
          bit_from_bits (t.width * input_count t) places (t.width * j + i) (place_lt j i here m)
          ∙ ap₂ (λ (u w : ℕ). bit (get_or x u 0) w) (place_word j i m) (place_bit j i m))
          ∙ from_bits_bit t.width (get_or x j 0) (start_word t x start j here)
        where
          here : j < input_count t
          here = omega (arith, length_start_at (start_number x))

  number_of_start : 1 ≤ t.width → (q : ℕ) → q < 2 ^ (t.width * input_count t) → start_number (start_at t q) ≡ q
  unfolding start_number
  number_of_start some q h =
      from_bits_cong (t.width * input_count t) (λ k. bit (get_or (start_at t q) (k / t.width) 0) (k % t.width)) (bit q) place
      ∙ from_bits_bit (t.width * input_count t) q h
    where
      place : (k : ℕ) → k < t.width * input_count t → bit (get_or (start_at t q) (k / t.width) 0) (k % t.width) ≡ bit q k
      place k l =
          ap (λ (z : ℕ). bit z (k % t.width))
          (get_or_start_at q (k / t.width)
          ((div-lt_iff_lt-mul some).1 (rw (mul_comm (input_count t) t.width) l)))
          ∙ bit_from_bits t.width (λ i. bit q (t.width * (k / t.width) + i)) (k % t.width) (mod-lt k some)
          ∙ ap (bit q) (ap (λ (z : ℕ). z + k % t.width) (mul_comm t.width (k / t.width)) ∙ div-add-mod' k t.width)

-- ---- equally many

module _ (t : Trail) (list : List ℤ) (some : 1 ≤ t.width) (maps : MapsInverse t list) where
  abbrev satisfying : ℕ → Bool
  satisfying q = satisfies (variable (assignment_at t q)) list

  abbrev following : ℕ → Bool
  following r = follows t (start_at t r)

  to_start : ℕ → ℕ
  to_start q = start_number t (spelled t (assignment_at t q))

  to_assignment : ℕ → ℕ
  to_assignment r = assignment_number t (assignment_from t (start_at t r))

  assignment_leads : Leads (2 ^ variables t) (2 ^ (t.width * input_count t)) satisfying following to_start to_assignment
  unfolding to_start to_assignment start_number
  assignment_leads = record {
    below = λ q l e. from_bits_lt (t.width * input_count t) _;
    passes = λ q l e. ap (follows t) (again q e) ∙ (spells q e).following;
    back = λ q l e.
        ap (λ (z : List ℕ). assignment_number t (assignment_from t z)) (again q e)
        ∙ ap (assignment_number t) (spells q e).again
        ∙ number_of_assignment t q l;
  }
    where
      spells : (q : ℕ) → satisfying q ≡ true → SpellsBack t (assignment_at t q)
      spells q e = maps.from_assignment (assignment_at t q) (length_assignment_at t q) e

      again : (q : ℕ) → satisfying q ≡ true → start_at t (to_start q) ≡ spelled t (assignment_at t q)
      again q e = start_of_number t (spelled t (assignment_at t q)) (spells q e).is_start

  start_leads : Leads (2 ^ (t.width * input_count t)) (2 ^ variables t) following satisfying to_assignment to_start
  unfolding to_start to_assignment assignment_number
  start_leads = record {
    below = λ r l e. from_bits_lt (variables t) _;
    passes = λ r l e. ap (λ (z : List Bool). satisfies (variable z) list) (again r e) ∙ (gives r e).satisfying;
    back = λ r l e.
        ap (λ (z : List Bool). start_number t (spelled t z)) (again r e)
        ∙ ap (start_number t) (gives r e).again
        ∙ number_of_start t some r l;
  }
    where
      gives : (r : ℕ) → following r ≡ true → GivesBack t list (start_at t r)
      gives r e = maps.from_start (start_at t r) (start_at_start t r) e

      again : (r : ℕ) → following r ≡ true → assignment_at t (to_assignment r) ≡ assignment_from t (start_at t r)
      again r e = assignment_of_number t (assignment_from t (start_at t r)) (gives r e).is_assignment

  pub equally_many : EquallyMany t list
  unfolding satisfying_count following_count
  equally_many = equal_counts assignment_leads start_leads
