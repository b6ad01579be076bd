-- The starting value that an assignment's first variables spell.
use mathlib.Core.Path.{◌≡◌, refl, sym, ap, ◌∙◌}
use mathlib.Core.Bool.{Bool, true}
use mathlib.Core.List.{List}
use Prim.Native.Nat.{ℕ, ◌<◌}
use native.Mathlib.Omega.{arith}
use lib.ListN.{length, get_or}
use lib.Seq.{ext_get_or}
use Rattle.words.specs.Words.{bit, from_bits}
use Rattle.words.proofs.Below.{length_tabulate, get_d_tabulate}
use Rattle.words.proofs.Bits.{from_bits_lt, from_bits_cong, from_bits_bit}
use Rattle.trail.specs.Trail.{Trail, input_count}
use Rattle.trail.specs.Runs.{run_word, is_start}
use Rattle.trail.proofs.Runs.{run_input, start_length, start_word, start_yes}
use Rattle.cnf.specs.Formulas.{variable}
use Rattle.clause_lists.specs.Variables.{bit_variable}
use Rattle.clause_lists.specs.Assignments.{spelled, Given, assignment_from}
use Rattle.clause_lists.proofs.GivenValues.{length_assignment_from, given_iff}

module _ (t : Trail) where
  module _ (a : List Bool) where
    -- word j as an assignment's variables spell it
    abbrev spelled_word : ℕ → ℕ
    spelled_word j = from_bits t.width (λ i. variable a (bit_variable t j i))

    pub length_spelled : length (spelled t a) ≡ input_count t
    unfolding spelled
    length_spelled = length_tabulate (input_count t) spelled_word

    pub get_or_spelled : (j : ℕ) → j < input_count t
        → get_or (spelled t a) j 0 ≡ from_bits t.width (λ i. variable a (bit_variable t j i))
    unfolding spelled
    get_or_spelled j h = get_d_tabulate (input_count t) spelled_word j 0 h

    pub spelled_start : is_start t (spelled t a) ≡ true
    spelled_start =
        start_yes t (spelled t a) length_spelled
        (λ j h. rw (get_or_spelled j h) (from_bits_lt t.width (λ i. variable a (bit_variable t j i))))

  -- the assignment that a starting value gives spells it
  pub spelled_again : (x : List ℕ) → is_start t x ≡ true → spelled t (assignment_from t x) ≡ x
  spelled_again x start = ext_get_or 0 (spelled t a) x (length_spelled a ∙ sym (start_length t x start)) word
    where
      a : List Bool
      a = assignment_from t x

      given : Given t x a
      given = (given_iff t x a (length_assignment_from t x)).1 refl

      word : (j : ℕ) → j < length (spelled t a) → get_or (spelled t a) j 0 ≡ get_or x j 0
      word j l =
          get_or_spelled a j here
          ∙ from_bits_cong t.width (λ i. variable a (bit_variable t j i)) (bit (run_word t x j)) (given.words j (omega (arith, here)))
          ∙ ap (λ (z : ℕ). from_bits t.width (bit z)) (run_input t x j (omega (arith, here, start_length t x start)))
          ∙ from_bits_bit t.width (get_or x j 0) (start_word t x start j here)
        where
          here : j < input_count t
          here = omega (arith, length_spelled a)
