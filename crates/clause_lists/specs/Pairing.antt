-- The parts of demand 3 that speak of a trail and a list of numbers alone.
use Rattle.std.specs.Prelude.{ℕ, ◌-◌, ◌≤◌, ◌<◌, ◌≡◌, ◌↔◌, Bool, true, List, length, get_or, ℤ, pos, nat_abs}
use Rattle.trail.specs.Trail.{Trail, line_count}
use Rattle.trail.specs.Runs.{is_start, follows}
use Rattle.trail.specs.WellFormed.{WellFormed}
use Rattle.cnf.specs.Formulas.{variable, satisfies}
use Rattle.clause_lists.specs.Variables.{variables}
use Rattle.clause_lists.specs.Lists.{line_list, joined}
use Rattle.clause_lists.specs.Assignments.{spelled, Given, assignment_from, satisfying_count, following_count}

-- an assignment has one value for each variable, used in a clause or not
abbrev pub IsAssignment : Trail → List Bool → Type 0
IsAssignment t a = length a ≡ variables t

-- The assignment satisfies all clauses of all lines exactly when its first variables spell a starting value that follows the
-- trail and every other variable has the value that the two runs from there give it.
abbrev pub SatisfiedExactly : Trail → List ℤ → Type 0
SatisfiedExactly t list =
    (a : List Bool) → IsAssignment t a
    → (satisfies (variable a) list ≡ true) ↔ ((follows t (spelled t a) ≡ true) × Given t (spelled t a) a)

-- The satisfying assignments and the starting values that follow pair off one to one: each starting value that follows gives a
-- satisfying assignment, which spells it,
pub record GivesBack (t : Trail) (list : List ℤ) (x : List ℕ) : Type 0 where
  pub is_assignment : IsAssignment t (assignment_from t x)
  pub satisfying : satisfies (variable (assignment_from t x)) list ≡ true
  pub again : spelled t (assignment_from t x) ≡ x

-- and each satisfying assignment spells a starting value that follows, which gives it.
pub record SpellsBack (t : Trail) (a : List Bool) : Type 0 where
  pub is_start : is_start t (spelled t a) ≡ true
  pub following : follows t (spelled t a) ≡ true
  pub again : assignment_from t (spelled t a) ≡ a

pub record MapsInverse (t : Trail) (list : List ℤ) : Type 0 where
  pub from_start : (x : List ℕ) → is_start t x ≡ true → follows t x ≡ true → GivesBack t list x
  pub from_assignment : (a : List Bool) → IsAssignment t a → satisfies (variable a) list ≡ true → SpellsBack t a

-- Equally many.
abbrev pub EquallyMany : Trail → List ℤ → Type 0
EquallyMany t list = satisfying_count t list ≡ following_count t

-- every number other than 0 names a variable from 1 to the trail's count
abbrev pub NamesVariables : Trail → List ℤ → Type 0
NamesVariables t list = (i : ℕ) → i < length list → nat_abs (get_or list i (pos 0)) ≤ variables t

-- and the last of them is named: the trail's count is the largest variable in the list
abbrev pub NamesLast : Trail → List ℤ → Type 0
NamesLast t list = (i : ℕ) × (i < length list) × (nat_abs (get_or list i (pos 0)) ≡ variables t)

-- a line's list has a last number, and it is 0
pub record EndsInZero (list : List ℤ) : Type 0 where
  pub some : 1 ≤ length list
  pub last : get_or list (length list - 1) (pos 1) ≡ pos 0

-- for every well-formed trail
pub record TrailPairs (t : Trail) : Type 0 where
  pub satisfied_exactly : SatisfiedExactly t (joined t)
  pub maps_inverse : MapsInverse t (joined t)
  pub equally_many : EquallyMany t (joined t)
  pub names_variables : NamesVariables t (joined t)
  pub names_last : NamesLast t (joined t)
  pub ends_in_zero : (k : ℕ) → k < line_count t → EndsInZero (line_list t k)

abbrev pub EveryTrailPairs : Type 0
EveryTrailPairs = (t : Trail) → WellFormed t → TrailPairs t
