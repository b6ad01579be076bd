-- What two runs come to (document 01, "Two runs").
use Rattle.std.specs.Prelude.{ℕ, zero, suc, ◌+◌, ◌<◌, ◌≡◌, ◌↔◌, Bool, true, false, not, cond, List}
use Rattle.std.specs.Bool.{xor}
use Rattle.std.specs.Int.Bits.{bit_xor}
use Rattle.words.specs.Words.{bit}
use Rattle.trail.specs.Trail.{Trail, input_count, line_count, line_at}
use Rattle.trail.specs.WellFormed.{WellFormed}
use Rattle.trail.specs.Runs.{run_word, partner, is_start, line_follows, follows}
use Rattle.sheet_runs.specs.declared.RunsOutcome.{RunsOutcome}
use Rattle.sheet_runs.specs.declared.RunsOutcome.TheVariants.{Follows, Disagree}

-- the least number below the bound that passes the test; the bound where none does
unfoldable pub least : ℕ → (ℕ → Bool) → ℕ
least zero p = 0
least (suc b) p = cond (p 0) 0 (suc (least b (λ k. p (suc k))))

-- by what the two runs' results of line k differ
unfoldable pub result_difference : Trail → List ℕ → ℕ → ℕ
result_difference t x k = bit_xor (run_word t x (input_count t + k)) (run_word t (partner t x) (input_count t + k))

-- whether they disagree with the line's stated difference in bit i
unfoldable pub disagrees : Trail → List ℕ → ℕ → ℕ → Bool
disagrees t x k i = xor (bit (result_difference t x k) i) (bit (line_at t k).difference i)

-- the first line where the differences disagree
unfoldable pub first_line : Trail → List ℕ → ℕ
first_line t x = least (line_count t) (λ k. not (line_follows t x k))

-- and in it the lowest bit
unfoldable pub lowest_bit : Trail → List ℕ → ℕ → ℕ
lowest_bit t x k = least t.width (disagrees t x k)

pub data Outcome : Type 0 where
  followed : Outcome
  disagree : ℕ → ℕ → Outcome

-- They follow if every line's results differ by its stated difference. The answer otherwise is the first line, and in it the
-- lowest bit, where the differences disagree.
unfoldable pub outcome : Trail → List ℕ → Outcome
outcome t x = cond (follows t x) followed (disagree (first_line t x) (lowest_bit t x (first_line t x)))

-- what the code's outcome means
abbrev pub outcome_means : RunsOutcome → Outcome
outcome_means Follows = followed
outcome_means (Disagree k i) = disagree k i

-- the answer is "follows" exactly when the starting value follows
abbrev pub FollowsExactly : Type 0
FollowsExactly = (t : Trail) (x : List ℕ) → (outcome t x ≡ followed) ↔ (follows t x ≡ true)

-- an answer other than that names the first line that disagrees and its lowest bit
pub record FirstDisagreement (t : Trail) (x : List ℕ) (k i : ℕ) : Type 0 where
  pub line_below : k < line_count t
  pub earlier_follow : (l : ℕ) → l < k → line_follows t x l ≡ true
  pub bit_below : i < t.width
  pub disagrees_here : disagrees t x k i ≡ true
  pub lower_agree : (j : ℕ) → j < i → disagrees t x k j ≡ false

abbrev pub DisagreementIsFirst : Type 0
DisagreementIsFirst = (t : Trail) (x : List ℕ) → WellFormed t → is_start t x ≡ true → (k i : ℕ) → outcome t x ≡ disagree k i → FirstDisagreement t x k i
