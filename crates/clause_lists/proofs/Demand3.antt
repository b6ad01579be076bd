-- Demand 3 for every well-formed trail: the satisfying assignments of its joined list and the starting values that follow it pair
-- off one to one.
use mathlib.Core.Path.{◌≡◌, refl, sym, ap, ap₂, ◌∙◌}
use mathlib.Core.Logic.{◌↔◌}
use mathlib.Core.Bool.{Bool, true}
use mathlib.Core.List.{List}
use Prim.Native.Nat.{ℕ, ◌+◌, ◌<◌}
use native.Mathlib.Omega.{arith}
use Rattle.words.specs.Words.{bit}
use Rattle.trail.specs.Kinds.{makes}
use Rattle.trail.specs.Kinds.{kind_of}
use Rattle.trail.specs.Trail.{Trail, input_count, line_count, line_at}
use Rattle.trail.specs.Runs.{follows}
use Rattle.trail.specs.WellFormed.{WellFormedLine, WellFormed}
use Rattle.trail.proofs.Runs.{second_below, run_line}
use Rattle.cnf.specs.Formulas.{variable, holds, satisfies}
use Rattle.clause_lists.specs.Variables.{Run, carry_literal}
use Rattle.clause_lists.specs.Variables.Run.{firstRun}
use Rattle.clause_lists.specs.Lists.{joined}
use Rattle.clause_lists.specs.Kinds.{gates}
use Rattle.clause_lists.specs.Assignments.{spelled, start_of, second_summand, carried, carry_of, Given, assignment_from}
use Rattle.clause_lists.specs.Pairing.{SatisfiedExactly, MapsInverse, TrailPairs, EveryTrailPairs}
use Rattle.clause_lists.proofs.GivenValues.{length_assignment_from, given_iff}
use Rattle.clause_lists.proofs.Spelled.{spelled_start, spelled_again}
use Rattle.clause_lists.proofs.Numbered.{equally_many}
use Rattle.clause_lists.proofs.TrailLiterals.{names_variables}
use Rattle.clause_lists.proofs.LastVariable.{names_last}
use Rattle.clause_lists.proofs.BothRuns.{LineRight, joined_iff}
use Rattle.clause_lists.proofs.ReadWords.{read_in, first_bits, starts, Agrees, agrees_made, agrees_follows, agrees_given}
use Rattle.clause_lists.proofs.EndsInZero.{ends_in_zero}

module _ {t : Trail} (good : WellFormed t) where
  module _ (a : List Bool) where
    -- the carries of the words read are the runs'
    carries_agree : Agrees good a → (run : Run) (k : ℕ) → k < line_count t → (i : ℕ)
        → carry_of t run (spelled t a) k i
        ≡ carried (gates (kind_of (line_at t k).kind)).carries (read_in t a run (line_at t k).first) (second_summand (line_at t k) (read_in t a run (line_at t k).second)) i
    unfolding carry_of
    carries_agree agrees run k h i =
        ap₂ (λ (p q : ℕ). carried (gates (kind_of (line_at t k).kind)).carries p (second_summand (line_at t k) q) i)
        (agrees run (line_at t k).first (omega (arith, line.first_earlier)))
        (agrees run (line_at t k).second (omega (arith, second_below line)))
      where
        line : WellFormedLine t.width (input_count t + k) (line_at t k)
        line = good.lines_right k h

    lines_given : Agrees good a → ((k : ℕ) → k < line_count t → LineRight t (variable a) k) → Given t (spelled t a) a
    unfolding carry_literal holds
    lines_given agrees right = record {
      words = λ j h i l. sym (first_bits good a j i l) ∙ ap (λ (z : ℕ). bit z i) (sym (agrees firstRun j h));
      carries = λ run k h e i least l. (right k h run).carries e i least l ∙ sym (carries_agree agrees run k h i);
    }

    given_lines : Agrees good a → Given t (spelled t a) a → (k : ℕ) → k < line_count t → LineRight t (variable a) k
    unfolding carry_literal holds
    given_lines agrees given k h run = record {
      made =
          sym (agrees run (input_count t + k) (omega arith))
          ∙ run_line good (start_of t run (spelled t a)) (starts good a run) k h
          ∙ ap₂ (makes t.width (line_at t k))
          (agrees run (line_at t k).first (omega (arith, line.first_earlier)))
          (agrees run (line_at t k).second (omega (arith, second_below line)));
      carries = λ e i least l. given.carries run k h e i least l ∙ carries_agree agrees run k h i;
    }
      where
        line : WellFormedLine t.width (input_count t + k) (line_at t k)
        line = good.lines_right k h

    satisfied_iff : (satisfies (variable a) (joined t) ≡ true)
        ↔ ((follows t (spelled t a) ≡ true) × Given t (spelled t a) a)
    satisfied_iff = (λ s. to ((joined_iff good (variable a)).0 s), λ r. (joined_iff good (variable a)).1 (from r))
      where
        to : ((k : ℕ) → k < line_count t → LineRight t (variable a) k)
            → (follows t (spelled t a) ≡ true) × Given t (spelled t a) a
        to right = (agrees_follows good a agrees, lines_given agrees right)
          where
            agrees : Agrees good a
            agrees = agrees_made good a (λ run k h. (right k h run).made)

        from : (follows t (spelled t a) ≡ true) × Given t (spelled t a) a
            → (k : ℕ) → k < line_count t → LineRight t (variable a) k
        from r = given_lines (agrees_given good a r.0 r.1.words) r.1

  satisfied_exactly : SatisfiedExactly t (joined t)
  satisfied_exactly a e = satisfied_iff a

  maps_inverse : MapsInverse t (joined t)
  maps_inverse = record {
    from_start = λ x start following. record {
      is_assignment = length_assignment_from t x;
      satisfying =
          (satisfied_iff (assignment_from t x)).1
          (rw (spelled_again t x start) (following, (given_iff t x (assignment_from t x) (length_assignment_from t x)).1 refl));
      again = spelled_again t x start;
    };
    from_assignment = λ a e s. record {
      is_start = spelled_start t a;
      following = ((satisfied_iff a).0 s).0;
      again = sym ((given_iff t (spelled t a) a e).0 ((satisfied_iff a).0 s).1);
    };
  }

  trail_pairs : TrailPairs t
  trail_pairs = record {
    satisfied_exactly = satisfied_exactly;
    maps_inverse = maps_inverse;
    equally_many = equally_many t (joined t) (omega (arith, good.width_least)) maps_inverse;
    names_variables = names_variables good;
    names_last = names_last good;
    ends_in_zero = ends_in_zero good;
  }

pub every_trail_pairs : EveryTrailPairs
every_trail_pairs t good = trail_pairs good
