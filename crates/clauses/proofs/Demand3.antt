-- Demand 3 for sheets: what the call for one line's list writes pairs off satisfying assignments and starting values that follow.
use Prim.Native.Nat.{ℕ}
use mathlib.Core.Path.{◌≡◌, refl, sym, subst, ◌∙◌}
use mathlib.Core.Bool.{Bool, true, false, true≢false}
use mathlib.Core.List.{List}
use lib.IntN.{ℤ}
use Rattle.trail.specs.Trail.{Trail}
use Rattle.trail.specs.Runs.{is_start, follows}
use Rattle.cnf.specs.Formulas.{variable, satisfies}
use Rattle.clause_lists.specs.Lists.{joined}
use Rattle.clause_lists.specs.Assignments.{spelled}
use Rattle.clause_lists.specs.Pairing.{IsAssignment, SatisfiedExactly, MapsInverse, EquallyMany, NamesVariables, EndsInZero}
use Rattle.clause_lists.proofs.Demand3.{every_trail_pairs}
use Rattle.sheet.specs.Fields.{trail_of}
use Rattle.sheet.specs.declared.Mode.TheVariants.{Read}
use Rattle.sheet.proofs.WellFormed.{accepted_well_formed}
use Rattle.trail_reports.proofs.Demand2.{sheet_reports_are_right}
use Rattle.clauses.specs.Demand3.{NoneOfEither, EverySheetPairs}
use Rattle.clauses.proofs.Written.{written_list, joined_list_lem}
use Rattle.clauses.proofs.Impossible.{none_follows}

-- no starting value follows: no assignment satisfies
none_of_either : {t : Trail} {list : List ℤ} → MapsInverse t list → ((x : List ℕ) → is_start t x ≡ true → follows t x ≡ false)
    → NoneOfEither t list
none_of_either {t} {list} maps none = record { no_assignment = λ a is. at a is (satisfies (variable a) list) refl; no_start = none }
  where
    at : (a : List Bool) → IsAssignment t a → (b : Bool) → satisfies (variable a) list ≡ b → b ≡ false
    at a is false e = refl
    at a is true e =
        let back = maps.from_assignment a is e in
        absurd (true≢false (sym back.following ∙ none (spelled t a) back.is_start))

pub every_sheet_pairs : EverySheetPairs
every_sheet_pairs s accepts buffers long =
    let t = trail_of s in
    let good = accepted_well_formed Read s accepts in
    let pairs = every_trail_pairs t good in
    let same : joined t ≡ _ = sym (joined_list_lem s accepts buffers long) in
    record {
      satisfied_exactly = subst (SatisfiedExactly t) same pairs.satisfied_exactly;
      maps_inverse = subst (MapsInverse t) same pairs.maps_inverse;
      equally_many = subst (EquallyMany t) same pairs.equally_many;
      none_if_impossible = λ k l impossible.
          subst (NoneOfEither t) same
          (none_of_either pairs.maps_inverse (none_follows good k l ((sheet_reports_are_right s accepts k l).impossible_exactly.0 impossible)));
      names_variables = subst (NamesVariables t) same pairs.names_variables;
      ends_in_zero = λ k l. subst EndsInZero (sym (written_list s accepts k l (buffers k) (long k l))) (pairs.ends_in_zero k l);
    }
