-- Lists number for number: document 01's example, and a line of each other form.
use mathlib.Core.Path.{◌≡◌, refl, ◌∙◌}
use mathlib.Core.Bool.{xor, true≢false, false≢true}
use mathlib.Core.List.{[], ◌∷◌}
use Prim.Native.Nat.{ℕ, zero, suc, ◌+◌, ◌<◌}
use native.Mathlib.Omega.{arith}
use lib.IntN.{ℤ, pos, neg_ℤ}
use lib.ListN.{get_or}
use Rattle.words.specs.Words.{bit, from_bits, sum_modulo}
use Rattle.words.specs.Below.{all, count, total, tabulate, concat}
use Rattle.trail.specs.Kinds.{kind_of, makes}
use Rattle.trail.specs.Trail.{Trail, line_at, difference_at}
use Rattle.trail.specs.Runs.{word_of_line, words_after, run_word, partner, line_follows, follows}
use Rattle.trail.specs.WellFormed.{WellFormedLine, WellFormed}
use Rattle.cnf.specs.Formulas.{numbers}
use Rattle.cnf.specs.Gates.{literals, clause_of, values_in, wrong, row_clauses, gate}
use Rattle.clause_lists.specs.Kinds.{parity, ones, two_or_more}
use Rattle.clause_lists.specs.Variables.{bit_variable, variables_before, carry_variable, variables, bit_literal, carry_literal}
use Rattle.clause_lists.specs.Lists.{bit_clauses, run_clauses, clauses_in, line_clauses, line_list, clause_count, joined}
use Rattle.clause_lists.specs.Assignments.{start_at, satisfying_count, following_count}
use Rattle.clause_lists.proofs.Demand3.{every_trail_pairs}

-- a negated literal
abbrev neg : ℕ → ℤ
neg k = neg_ℤ (pos k)

-- ---- document 01's example: n = 2, the constant 1 added to word 0, which goes from difference 1 to 3

unfoldable pub example : Trail
example = record {
  width = 2;
  inputs = 1 ∷ [];
  lines = record { kind = 6; amount = 0; first = 0; second = 0; constant = 1; difference = 3 } ∷ [];
}

pub example_variables : variables example ≡ 6
unfolding example variables variables_before count kind_of line_at
example_variables = refl

pub example_clauses : clause_count example ≡ 16
unfolding example clause_count total line_clauses clauses_in run_clauses bit_clauses parity ones two_or_more gate row_clauses wrong values_in clause_of literals concat bit_literal carry_literal carry_variable variables_before bit_variable count line_at difference_at kind_of bit xor
example_clauses = refl

pub example_list : joined example ≡
    pos 1 ∷ pos 3 ∷ pos 0 ∷
    neg 1 ∷ neg 3 ∷ pos 0 ∷
    pos 1 ∷ neg 5 ∷ pos 0 ∷
    neg 1 ∷ pos 5 ∷ pos 0 ∷
    pos 2 ∷ pos 5 ∷ neg 4 ∷ pos 0 ∷
    pos 2 ∷ neg 5 ∷ pos 4 ∷ pos 0 ∷
    neg 2 ∷ pos 5 ∷ pos 4 ∷ pos 0 ∷
    neg 2 ∷ neg 5 ∷ neg 4 ∷ pos 0 ∷
    neg 1 ∷ neg 3 ∷ pos 0 ∷
    pos 1 ∷ pos 3 ∷ pos 0 ∷
    neg 1 ∷ neg 6 ∷ pos 0 ∷
    pos 1 ∷ pos 6 ∷ pos 0 ∷
    pos 2 ∷ pos 6 ∷ pos 4 ∷ pos 0 ∷
    pos 2 ∷ neg 6 ∷ neg 4 ∷ pos 0 ∷
    neg 2 ∷ pos 6 ∷ neg 4 ∷ pos 0 ∷
    neg 2 ∷ neg 6 ∷ pos 4 ∷ pos 0 ∷
    []
unfolding example joined line_list line_clauses clauses_in run_clauses bit_clauses parity ones two_or_more gate row_clauses wrong values_in clause_of literals numbers concat bit_literal carry_literal carry_variable variables_before bit_variable count line_at difference_at kind_of bit xor
example_list = refl

-- ---- n = 3: word 0 rotated left by 1, certain from difference 1 to 2

unfoldable pub rotated : Trail
rotated = record {
  width = 3;
  inputs = 1 ∷ [];
  lines = record { kind = 3; amount = 1; first = 0; second = 0; constant = 0; difference = 2 } ∷ [];
}

pub rotated_variables : variables rotated ≡ 6
unfolding rotated variables variables_before count kind_of line_at
rotated_variables = refl

pub rotated_clauses : clause_count rotated ≡ 12
unfolding rotated clause_count total line_clauses clauses_in run_clauses bit_clauses parity ones two_or_more gate row_clauses wrong values_in clause_of literals concat bit_literal carry_literal carry_variable variables_before bit_variable count line_at difference_at kind_of bit xor
rotated_clauses = refl

pub rotated_list : joined rotated ≡
    pos 3 ∷ neg 4 ∷ pos 0 ∷
    neg 3 ∷ pos 4 ∷ pos 0 ∷
    pos 1 ∷ neg 5 ∷ pos 0 ∷
    neg 1 ∷ pos 5 ∷ pos 0 ∷
    pos 2 ∷ neg 6 ∷ pos 0 ∷
    neg 2 ∷ pos 6 ∷ pos 0 ∷
    pos 3 ∷ neg 4 ∷ pos 0 ∷
    neg 3 ∷ pos 4 ∷ pos 0 ∷
    neg 1 ∷ pos 5 ∷ pos 0 ∷
    pos 1 ∷ neg 5 ∷ pos 0 ∷
    pos 2 ∷ neg 6 ∷ pos 0 ∷
    neg 2 ∷ pos 6 ∷ pos 0 ∷
    []
unfolding rotated joined line_list line_clauses clauses_in run_clauses bit_clauses parity ones two_or_more gate row_clauses wrong values_in clause_of literals numbers concat bit_literal carry_literal carry_variable variables_before bit_variable count line_at difference_at kind_of bit xor
rotated_list = refl

-- ---- n = 2: word 0 XOR the constant 2, certain from difference 1 to 1

unfoldable pub flipped : Trail
flipped = record {
  width = 2;
  inputs = 1 ∷ [];
  lines = record { kind = 2; amount = 0; first = 0; second = 0; constant = 2; difference = 1 } ∷ [];
}

pub flipped_variables : variables flipped ≡ 4
unfolding flipped variables variables_before count kind_of line_at
flipped_variables = refl

pub flipped_clauses : clause_count flipped ≡ 8
unfolding flipped clause_count total line_clauses clauses_in run_clauses bit_clauses parity ones two_or_more gate row_clauses wrong values_in clause_of literals concat bit_literal carry_literal carry_variable variables_before bit_variable count line_at difference_at kind_of bit xor
flipped_clauses = refl

pub flipped_list : joined flipped ≡
    pos 1 ∷ neg 3 ∷ pos 0 ∷
    neg 1 ∷ pos 3 ∷ pos 0 ∷
    pos 2 ∷ pos 4 ∷ pos 0 ∷
    neg 2 ∷ neg 4 ∷ pos 0 ∷
    neg 1 ∷ pos 3 ∷ pos 0 ∷
    pos 1 ∷ neg 3 ∷ pos 0 ∷
    pos 2 ∷ pos 4 ∷ pos 0 ∷
    neg 2 ∷ neg 4 ∷ pos 0 ∷
    []
unfolding flipped joined line_list line_clauses clauses_in run_clauses bit_clauses parity ones two_or_more gate row_clauses wrong values_in clause_of literals numbers concat bit_literal carry_literal carry_variable variables_before bit_variable count line_at difference_at kind_of bit xor
flipped_list = refl

-- ---- n = 2: word 0 XOR itself, certain from difference 3 to 0

unfoldable pub cancelled : Trail
cancelled = record {
  width = 2;
  inputs = 3 ∷ [];
  lines = record { kind = 1; amount = 0; first = 0; second = 0; constant = 0; difference = 0 } ∷ [];
}

pub cancelled_variables : variables cancelled ≡ 4
unfolding cancelled variables variables_before count kind_of line_at
cancelled_variables = refl

pub cancelled_clauses : clause_count cancelled ≡ 16
unfolding cancelled clause_count total line_clauses clauses_in run_clauses bit_clauses parity ones two_or_more gate row_clauses wrong values_in clause_of literals concat bit_literal carry_literal carry_variable variables_before bit_variable count line_at difference_at kind_of bit xor
cancelled_clauses = refl

pub cancelled_list : joined cancelled ≡
    pos 1 ∷ pos 1 ∷ neg 3 ∷ pos 0 ∷
    pos 1 ∷ neg 1 ∷ pos 3 ∷ pos 0 ∷
    neg 1 ∷ pos 1 ∷ pos 3 ∷ pos 0 ∷
    neg 1 ∷ neg 1 ∷ neg 3 ∷ pos 0 ∷
    pos 2 ∷ pos 2 ∷ neg 4 ∷ pos 0 ∷
    pos 2 ∷ neg 2 ∷ pos 4 ∷ pos 0 ∷
    neg 2 ∷ pos 2 ∷ pos 4 ∷ pos 0 ∷
    neg 2 ∷ neg 2 ∷ neg 4 ∷ pos 0 ∷
    neg 1 ∷ neg 1 ∷ neg 3 ∷ pos 0 ∷
    neg 1 ∷ pos 1 ∷ pos 3 ∷ pos 0 ∷
    pos 1 ∷ neg 1 ∷ pos 3 ∷ pos 0 ∷
    pos 1 ∷ pos 1 ∷ neg 3 ∷ pos 0 ∷
    neg 2 ∷ neg 2 ∷ neg 4 ∷ pos 0 ∷
    neg 2 ∷ pos 2 ∷ pos 4 ∷ pos 0 ∷
    pos 2 ∷ neg 2 ∷ pos 4 ∷ pos 0 ∷
    pos 2 ∷ pos 2 ∷ neg 4 ∷ pos 0 ∷
    []
unfolding cancelled joined line_list line_clauses clauses_in run_clauses bit_clauses parity ones two_or_more gate row_clauses wrong values_in clause_of literals numbers concat bit_literal carry_literal carry_variable variables_before bit_variable count line_at difference_at kind_of bit xor
cancelled_list = refl

-- ---- n = 2: word 0 + word 1, which go from differences 1 and 0 to 1

unfoldable pub added : Trail
added = record {
  width = 2;
  inputs = 1 ∷ 0 ∷ [];
  lines = record { kind = 5; amount = 0; first = 0; second = 1; constant = 0; difference = 1 } ∷ [];
}

pub added_variables : variables added ≡ 8
unfolding added variables variables_before count kind_of line_at
added_variables = refl

pub added_clauses : clause_count added ≡ 32
unfolding added clause_count total line_clauses clauses_in run_clauses bit_clauses parity ones two_or_more gate row_clauses wrong values_in clause_of literals concat bit_literal carry_literal carry_variable variables_before bit_variable count line_at difference_at kind_of bit xor
added_clauses = refl

pub added_list : joined added ≡
    pos 1 ∷ pos 3 ∷ neg 5 ∷ pos 0 ∷
    pos 1 ∷ neg 3 ∷ pos 5 ∷ pos 0 ∷
    neg 1 ∷ pos 3 ∷ pos 5 ∷ pos 0 ∷
    neg 1 ∷ neg 3 ∷ neg 5 ∷ pos 0 ∷
    pos 1 ∷ pos 3 ∷ neg 7 ∷ pos 0 ∷
    pos 1 ∷ neg 3 ∷ neg 7 ∷ pos 0 ∷
    neg 1 ∷ pos 3 ∷ neg 7 ∷ pos 0 ∷
    neg 1 ∷ neg 3 ∷ pos 7 ∷ pos 0 ∷
    pos 2 ∷ pos 4 ∷ pos 7 ∷ neg 6 ∷ pos 0 ∷
    pos 2 ∷ pos 4 ∷ neg 7 ∷ pos 6 ∷ pos 0 ∷
    pos 2 ∷ neg 4 ∷ pos 7 ∷ pos 6 ∷ pos 0 ∷
    pos 2 ∷ neg 4 ∷ neg 7 ∷ neg 6 ∷ pos 0 ∷
    neg 2 ∷ pos 4 ∷ pos 7 ∷ pos 6 ∷ pos 0 ∷
    neg 2 ∷ pos 4 ∷ neg 7 ∷ neg 6 ∷ pos 0 ∷
    neg 2 ∷ neg 4 ∷ pos 7 ∷ neg 6 ∷ pos 0 ∷
    neg 2 ∷ neg 4 ∷ neg 7 ∷ pos 6 ∷ pos 0 ∷
    neg 1 ∷ pos 3 ∷ pos 5 ∷ pos 0 ∷
    neg 1 ∷ neg 3 ∷ neg 5 ∷ pos 0 ∷
    pos 1 ∷ pos 3 ∷ neg 5 ∷ pos 0 ∷
    pos 1 ∷ neg 3 ∷ pos 5 ∷ pos 0 ∷
    neg 1 ∷ pos 3 ∷ neg 8 ∷ pos 0 ∷
    neg 1 ∷ neg 3 ∷ neg 8 ∷ pos 0 ∷
    pos 1 ∷ pos 3 ∷ neg 8 ∷ pos 0 ∷
    pos 1 ∷ neg 3 ∷ pos 8 ∷ pos 0 ∷
    pos 2 ∷ pos 4 ∷ pos 8 ∷ neg 6 ∷ pos 0 ∷
    pos 2 ∷ pos 4 ∷ neg 8 ∷ pos 6 ∷ pos 0 ∷
    pos 2 ∷ neg 4 ∷ pos 8 ∷ pos 6 ∷ pos 0 ∷
    pos 2 ∷ neg 4 ∷ neg 8 ∷ neg 6 ∷ pos 0 ∷
    neg 2 ∷ pos 4 ∷ pos 8 ∷ pos 6 ∷ pos 0 ∷
    neg 2 ∷ pos 4 ∷ neg 8 ∷ neg 6 ∷ pos 0 ∷
    neg 2 ∷ neg 4 ∷ pos 8 ∷ neg 6 ∷ pos 0 ∷
    neg 2 ∷ neg 4 ∷ neg 8 ∷ pos 6 ∷ pos 0 ∷
    []
unfolding added joined line_list line_clauses clauses_in run_clauses bit_clauses parity ones two_or_more gate row_clauses wrong values_in clause_of literals numbers concat bit_literal carry_literal carry_variable variables_before bit_variable count line_at difference_at kind_of bit xor
added_list = refl

-- ---- no theorem about well-formed trails is empty: of the example's four starting values and sixty-four assignments, all four
-- follow and four satisfy

example_line : WellFormedLine 2 1 (record { kind = 6; amount = 0; first = 0; second = 0; constant = 1; difference = 3 })
unfolding kind_of
example_line = record {
  kind_known = λ e. let z : ◌≡◌ {A = ℕ} 0 1 = cc in omega arith;
  first_earlier = omega arith;
  second_earlier = λ e. omega arith;
  operands_differ = λ e. let z : ◌≡◌ {A = ℕ} 0 1 = cc in absurd (omega arith);
  amount_least = λ e. absurd (false≢true e);
  amount_most = λ e. omega arith;
  constant_word = λ e. omega arith;
  difference_word = omega arith;
  second_unused = λ e. refl;
  amount_unused = λ e. refl;
  constant_unused = λ e. absurd (true≢false e);
}

example_well_formed : WellFormed example
unfolding example line_at
example_well_formed = record {
  width_least = omega arith;
  inputs_least = omega arith;
  lines_least = omega arith;
  inputs_words = word;
  lines_right = line;
}
  where
    word : (j : ℕ) → j < 1 → get_or (1 ∷ []) j 0 < 4
    word zero h = omega arith
    word (suc j) h = absurd (omega arith)

    line : (k : ℕ) → k < 1 → WellFormedLine 2 (1 + k) (line_at example k)
    line zero h = example_line
    line (suc k) h = absurd (omega arith)

pub example_following : following_count example ≡ 4
unfolding example following_count count follows line_follows all start_at tabulate from_bits run_word words_after word_of_line makes partner sum_modulo kind_of line_at bit
example_following = refl

pub example_satisfying : satisfying_count example (joined example) ≡ 4
example_satisfying = (every_trail_pairs example example_well_formed).equally_many ∙ example_following
