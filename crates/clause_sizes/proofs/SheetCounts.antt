-- The counts of an accepted sheet, line by line, and their limits.
use Prim.Native.Nat.{ℕ, ◌+◌, ◌-◌, ◌*◌, ◌<◌, ◌≤◌}
use native.Mathlib.Decide.{le_ind}
use native.Mathlib.Nat.{mul-le-mul_left}
use native.Mathlib.Numerals.{add-one}
use native.Mathlib.Omega.{arith}
use mathlib.Core.Path.{◌≡◌, refl, sym, ap, ap₂, ◌∙◌}
use mathlib.Core.Bool.{Bool}
use mathlib.Core.List.{List}
use lib.ListN.{length}
use Rattle.words.specs.Words.{value}
use Rattle.words.specs.Below.{count, total}
use Rattle.words.proofs.Below.{count_le}
use Rattle.trail.specs.declared.Line.{Line}
use Rattle.trail.specs.Trail.{line_count, line_at}
use Rattle.trail.specs.WellFormed.{most_lines, most_words}
use Rattle.clause_lists.specs.Variables.{adds, variables_before, variables}
use Rattle.clause_lists.specs.Lists.{line_clauses, line_list, clause_count}
use Rattle.clause_lists.specs.Sizes.{gate_counts, size_of, clauses_of_gate, numbers_of_gate}
use Rattle.clause_lists.specs.Limits.{most_variables, most_clauses}
use Rattle.clause_lists.proofs.Lengths.{line_clauses_length, line_list_length}
use Rattle.clause_lists.proofs.Limits.{clauses_count_most}
use Rattle.sheet.specs.declared.Header.{Header}
use Rattle.sheet.specs.declared.Mode.TheVariants.{Read}
use Rattle.sheet.specs.Fields.{trail_of}
use Rattle.sheet.specs.Facts.{SheetRead}
use Rattle.sheet.proofs.WellFormed.{accepted_sized}
use Rattle.clause_sizes.specs.declared.Counts.{Counts}
use Rattle.clause_sizes.specs.Counts.{counts_of}

-- ---- one more

pub count_start : (p : ℕ → Bool) → 0 ≡ count 0 p
unfolding count
count_start p = refl

pub count_more : (p : ℕ → Bool) (i : ℕ) (b : Bool) {found after : ℕ} → found ≡ count i p → p i ≡ b → after ≡ found + value b
    → after ≡ count (i + 1) p
unfolding count
count_more p i b e d a = rw add-one (cc)

pub total_start : (f : ℕ → ℕ) → 0 ≡ total 0 f
unfolding total
total_start f = refl

pub total_more : (f : ℕ → ℕ) (i : ℕ) {sum value : ℕ} → sum ≡ total i f → value ≡ f i → sum + value ≡ total (i + 1) f
unfolding total
total_more f i e d = rw add-one (cc)

pub total_upto : (f : ℕ → ℕ) (i n : ℕ) → i ≤ n → total i f ≤ total n f
unfolding total
total_upto f i n h = le_ind (λ m. total i f ≤ total m f) (omega arith) (λ m _ l. omega arith) n h

-- ---- of a sheet that was read

module _ (s : List ℕ) (h : Header) (read : SheetRead s h) where
  -- the variables before line k: those of the words, and those of both runs' carries for each line with carries
  pub variables_are : (k found : ℕ) → found ≡ count k (adds (trail_of s))
      → h.width * (h.inputs + h.lines) + 2 * (h.width - 1) * found ≡ variables_before (trail_of s) k
  unfolding variables_before
  variables_are k found e =
      let width = sym read.width in
      ap₂ ◌+◌ (ap₂ ◌*◌ width (ap₂ ◌+◌ (sym read.inputs) (sym read.lines))) (ap₂ (λ (n c : ℕ). 2 * (n - 1) * c) width e)

  pub word_variables_most : h.width * (h.inputs + h.lines) ≤ h.width * most_words
  word_variables_most =
      let limits = read.limits in
      mul-le-mul_left h.width (omega (arith, limits.inputs_most, limits.lines_most))

  pub carry_variables_most : (most k found : ℕ) → k ≤ most → found ≡ count k (adds (trail_of s))
      → 2 * (h.width - 1) * found ≤ 2 * (h.width - 1) * most
  carry_variables_most most k found few e = mul-le-mul_left (2 * (h.width - 1)) (omega (arith, count_le k (adds (trail_of s))))

  -- and the first run's carries of line k
  pub before_most : (k : ℕ) → k < h.lines → variables_before (trail_of s) k + (h.width - 1) ≤ most_variables h.width
  before_most k less =
      let few : k ≤ most_lines - 1 = omega (arith, read.limits.lines_most) in
      rw (← variables_are k (count k (adds (trail_of s))) refl)
      (omega (arith, word_variables_most, carry_variables_most (most_lines - 1) k (count k (adds (trail_of s))) few refl))

  -- the size of a line's list, as the code measures it
  pub size_is : (ofGate : ℕ → ℕ) (k : ℕ) {l : Line} {r : ℕ} → l ≡ line_at (trail_of s) k → r ≡ size_of ofGate (gate_counts h.width l)
      → r ≡ size_of ofGate (gate_counts (trail_of s).width (line_at (trail_of s) k))
  size_is ofGate k e d = d ∙ ap₂ (λ (n : ℕ) (z : Line). size_of ofGate (gate_counts n z)) (sym read.width) e

  pub clauses_are : (k : ℕ) {l : Line} {r : ℕ} → k < h.lines → l ≡ line_at (trail_of s) k
      → r ≡ size_of clauses_of_gate (gate_counts h.width l) → r ≡ length (line_clauses (trail_of s) k)
  clauses_are k less e d = size_is clauses_of_gate k e d ∙ sym (line_clauses_length read.well_formed k (omega arith))

  pub numbers_are : (k : ℕ) {l : Line} {r : ℕ} → k < h.lines → l ≡ line_at (trail_of s) k
      → r ≡ size_of numbers_of_gate (gate_counts h.width l) → r ≡ length (line_list (trail_of s) k)
  numbers_are k less e d = size_is numbers_of_gate k e d ∙ sym (line_list_length read.well_formed k (omega arith))

  pub clauses_upto : (k : ℕ) → k ≤ h.lines → total k (λ i. length (line_clauses (trail_of s) i)) ≤ most_clauses 32
  unfolding clause_count
  clauses_upto k l =
      omega (
        arith,
        total_upto (λ i. length (line_clauses (trail_of s) i)) k (line_count (trail_of s)) (omega (arith, read.lines)),
        clauses_count_most 32 (accepted_sized Read s read.accepted) read.well_formed,
      )

  pub clauses_all : (k : ℕ) {sum : ℕ} → k ≡ h.lines → sum ≡ total k (λ i. length (line_clauses (trail_of s) i))
      → sum ≡ clause_count (trail_of s)
  unfolding clause_count
  clauses_all k e d = d ∙ ap (λ (n : ℕ). total n (λ i. length (line_clauses (trail_of s) i))) (e ∙ sym read.lines)

  -- both counts
  pub counts_are : {v c : ℕ} → v ≡ variables_before (trail_of s) h.lines → c ≡ clause_count (trail_of s)
      → ◌≡◌ {A = Counts} (record { variables = v; clauses = c }) (counts_of (trail_of s))
  unfolding variables
  counts_are e d =
      let all = e ∙ ap (variables_before (trail_of s)) (sym read.lines) in
      λ i. record { variables = all i; clauses = d i }
