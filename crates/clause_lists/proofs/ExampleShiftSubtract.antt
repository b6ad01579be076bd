-- Lists of the kinds of document 02, W-201, number for number: a filled zero's gate has its output alone, and a borrow stands where an
-- addition has its carry.
use mathlib.Core.Path.{◌≡◌, refl}
use mathlib.Core.Bool.{xor}
use mathlib.Core.List.{List, [], ◌∷◌}
use Prim.Native.Nat.{ℕ}
use lib.IntN.{ℤ, pos, neg_ℤ}
use Rattle.words.specs.Words.{bit}
use Rattle.words.specs.Below.{count, total, concat}
use Rattle.trail.specs.Kinds.{kind_of}
use Rattle.trail.specs.Trail.{Trail, line_at, difference_at}
use Rattle.cnf.specs.Formulas.{numbers}
use Rattle.cnf.specs.Gates.{literals, clause_of, values_in, wrong, row_clauses, gate}
use Rattle.clause_lists.specs.Kinds.{parity, ones, less_than}
use Rattle.clause_lists.specs.Variables.{bit_variable, variables_before, carry_variable, variables, bit_literal, carry_literal}
use Rattle.clause_lists.specs.Variables.Run.{firstRun, secondRun}
use Rattle.clause_lists.specs.Lists.{bit_clauses, run_clauses, clauses_in, line_clauses, line_list, clause_count, joined}

-- a negated literal
abbrev neg : ℕ → ℤ
neg k = neg_ℤ (pos k)

-- ---- n = 3: word 0 shifted left by 1, certain from difference 5 to 2

unfoldable pub shifted_left : Trail
shifted_left = record {
  width = 3;
  inputs = 5 ∷ [];
  lines = record { kind = 7; amount = 1; first = 0; second = 0; constant = 0; difference = 2 } ∷ [];
}

pub shifted_left_counts : (variables shifted_left ≡ 6) × (clause_count shifted_left ≡ 10)
unfolding shifted_left variables clause_count total line_clauses clauses_in run_clauses bit_clauses parity gate row_clauses wrong values_in clause_of literals concat bit_literal variables_before bit_variable count line_at difference_at kind_of bit xor
shifted_left_counts = (refl, refl)

pub shifted_left_list : joined shifted_left ≡
    neg 4 ∷ pos 0 ∷
    pos 1 ∷ neg 5 ∷ pos 0 ∷
    neg 1 ∷ pos 5 ∷ pos 0 ∷
    pos 2 ∷ neg 6 ∷ pos 0 ∷
    neg 2 ∷ pos 6 ∷ pos 0 ∷
    neg 4 ∷ pos 0 ∷
    neg 1 ∷ pos 5 ∷ pos 0 ∷
    pos 1 ∷ neg 5 ∷ pos 0 ∷
    pos 2 ∷ neg 6 ∷ pos 0 ∷
    neg 2 ∷ pos 6 ∷ pos 0 ∷
    []
unfolding shifted_left joined line_list numbers line_clauses clauses_in run_clauses bit_clauses parity gate row_clauses wrong values_in clause_of literals concat bit_literal bit_variable line_at difference_at kind_of bit xor
shifted_left_list = refl

-- ---- n = 3: word 0 shifted right by 1, which cannot go from difference 2 to 5: the top bit is filled in both runs

unfoldable pub shifted_right : Trail
shifted_right = record {
  width = 3;
  inputs = 2 ∷ [];
  lines = record { kind = 8; amount = 1; first = 0; second = 0; constant = 0; difference = 5 } ∷ [];
}

pub shifted_right_counts : (variables shifted_right ≡ 6) × (clause_count shifted_right ≡ 10)
unfolding shifted_right variables clause_count total line_clauses clauses_in run_clauses bit_clauses parity gate row_clauses wrong values_in clause_of literals concat bit_literal variables_before bit_variable count line_at difference_at kind_of bit xor
shifted_right_counts = (refl, refl)

pub shifted_right_list : joined shifted_right ≡
    pos 2 ∷ neg 4 ∷ pos 0 ∷
    neg 2 ∷ pos 4 ∷ pos 0 ∷
    pos 3 ∷ neg 5 ∷ pos 0 ∷
    neg 3 ∷ pos 5 ∷ pos 0 ∷
    neg 6 ∷ pos 0 ∷
    neg 2 ∷ pos 4 ∷ pos 0 ∷
    pos 2 ∷ neg 4 ∷ pos 0 ∷
    pos 3 ∷ neg 5 ∷ pos 0 ∷
    neg 3 ∷ pos 5 ∷ pos 0 ∷
    pos 6 ∷ pos 0 ∷
    []
unfolding shifted_right joined line_list numbers line_clauses clauses_in run_clauses bit_clauses parity gate row_clauses wrong values_in clause_of literals concat bit_literal bit_variable line_at difference_at kind_of bit xor
shifted_right_list = refl

-- ---- n = 2: word 0 minus word 1, from differences 1 and 0 to 1

unfoldable pub subtracted : Trail
subtracted = record {
  width = 2;
  inputs = 1 ∷ 0 ∷ [];
  lines = record { kind = 9; amount = 0; first = 0; second = 1; constant = 0; difference = 1 } ∷ [];
}

pub subtracted_counts : (variables subtracted ≡ 8) × (clause_count subtracted ≡ 32)
unfolding subtracted variables clause_count total line_clauses clauses_in run_clauses bit_clauses parity ones less_than gate row_clauses wrong values_in clause_of literals concat bit_literal carry_literal carry_variable variables_before bit_variable count line_at difference_at kind_of bit xor
subtracted_counts = (refl, refl)

pub subtracted_list : joined subtracted ≡
    pos 1 ∷ pos 3 ∷ neg 5 ∷ pos 0 ∷
    pos 1 ∷ neg 3 ∷ pos 5 ∷ pos 0 ∷
    neg 1 ∷ pos 3 ∷ pos 5 ∷ pos 0 ∷
    neg 1 ∷ neg 3 ∷ neg 5 ∷ pos 0 ∷
    pos 1 ∷ pos 3 ∷ neg 7 ∷ pos 0 ∷
    pos 1 ∷ neg 3 ∷ pos 7 ∷ pos 0 ∷
    neg 1 ∷ pos 3 ∷ neg 7 ∷ pos 0 ∷
    neg 1 ∷ neg 3 ∷ neg 7 ∷ pos 0 ∷
    pos 2 ∷ pos 4 ∷ pos 7 ∷ neg 6 ∷ pos 0 ∷
    pos 2 ∷ pos 4 ∷ neg 7 ∷ pos 6 ∷ pos 0 ∷
    pos 2 ∷ neg 4 ∷ pos 7 ∷ pos 6 ∷ pos 0 ∷
    pos 2 ∷ neg 4 ∷ neg 7 ∷ neg 6 ∷ pos 0 ∷
    neg 2 ∷ pos 4 ∷ pos 7 ∷ pos 6 ∷ pos 0 ∷
    neg 2 ∷ pos 4 ∷ neg 7 ∷ neg 6 ∷ pos 0 ∷
    neg 2 ∷ neg 4 ∷ pos 7 ∷ neg 6 ∷ pos 0 ∷
    neg 2 ∷ neg 4 ∷ neg 7 ∷ pos 6 ∷ pos 0 ∷
    neg 1 ∷ pos 3 ∷ pos 5 ∷ pos 0 ∷
    neg 1 ∷ neg 3 ∷ neg 5 ∷ pos 0 ∷
    pos 1 ∷ pos 3 ∷ neg 5 ∷ pos 0 ∷
    pos 1 ∷ neg 3 ∷ pos 5 ∷ pos 0 ∷
    neg 1 ∷ pos 3 ∷ neg 8 ∷ pos 0 ∷
    neg 1 ∷ neg 3 ∷ pos 8 ∷ pos 0 ∷
    pos 1 ∷ pos 3 ∷ neg 8 ∷ pos 0 ∷
    pos 1 ∷ neg 3 ∷ neg 8 ∷ pos 0 ∷
    pos 2 ∷ pos 4 ∷ pos 8 ∷ neg 6 ∷ pos 0 ∷
    pos 2 ∷ pos 4 ∷ neg 8 ∷ pos 6 ∷ pos 0 ∷
    pos 2 ∷ neg 4 ∷ pos 8 ∷ pos 6 ∷ pos 0 ∷
    pos 2 ∷ neg 4 ∷ neg 8 ∷ neg 6 ∷ pos 0 ∷
    neg 2 ∷ pos 4 ∷ pos 8 ∷ pos 6 ∷ pos 0 ∷
    neg 2 ∷ pos 4 ∷ neg 8 ∷ neg 6 ∷ pos 0 ∷
    neg 2 ∷ neg 4 ∷ pos 8 ∷ neg 6 ∷ pos 0 ∷
    neg 2 ∷ neg 4 ∷ neg 8 ∷ pos 6 ∷ pos 0 ∷
    []
unfolding subtracted joined line_list numbers line_clauses clauses_in run_clauses bit_clauses parity ones less_than gate row_clauses wrong values_in clause_of literals concat bit_literal carry_literal carry_variable variables_before bit_variable count line_at difference_at kind_of bit xor
subtracted_list = refl

-- ---- n = 3: the variables of carries and borrows, of each such line in order, the first run's and then the second's

-- two inputs and three lines have 15 variables before them; line 1 has none
unfoldable pub three_lines : Trail
three_lines = record {
  width = 3;
  inputs = 0 ∷ 0 ∷ [];
  lines =
      record { kind = 9; amount = 0; first = 0; second = 1; constant = 0; difference = 0 }
      ∷ record { kind = 1; amount = 0; first = 0; second = 1; constant = 0; difference = 0 }
      ∷ record { kind = 5; amount = 0; first = 0; second = 1; constant = 0; difference = 0 }
      ∷ [];
}

abbrev carries_of : ℕ → List ℕ
carries_of k =
    carry_variable three_lines firstRun k 1
    ∷ carry_variable three_lines firstRun k 2
    ∷ carry_variable three_lines secondRun k 1
    ∷ carry_variable three_lines secondRun k 2
    ∷ []

pub carries_numbered : (carries_of 0 ≡ 16 ∷ 17 ∷ 18 ∷ 19 ∷ []) × (carries_of 2 ≡ 20 ∷ 21 ∷ 22 ∷ 23 ∷ []) × (variables three_lines ≡ 23)
unfolding three_lines carry_variable variables variables_before count line_at kind_of
carries_numbered = (refl, refl, refl)
