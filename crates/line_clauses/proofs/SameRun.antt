-- The run that the code holds has the clauses of the trail's run: its literals are the same.
use Prim.Native.Nat.{ℕ, zero, suc, ◌+◌, ◌-◌, ◌*◌, ◌≤◌, ◌<◌}
use native.Mathlib.Omega.{arith}
use mathlib.Core.Path.{◌≡◌, refl, sym, ap, ap₂, ◌∙◌}
use mathlib.Core.Bool.{Bool, true, false, cond}
use mathlib.Core.List.{List, [], ◌∷◌, ◌++◌}
use lib.Dec.{eqb, ltb}
use lib.IntN.{ℤ, pos, neg_ℤ}
use Rattle.words.specs.Words.{bit}
use Rattle.words.proofs.Below.{concat_cong}
use Rattle.words.proofs.Bits.{bit-xor, xor_self}
use Rattle.trail.specs.declared.Line.{Line}
use Rattle.trail.specs.Kinds.{kind_of, uses_second, uses_constant}
use Rattle.trail.specs.Trail.{Trail, line_at, difference_at}
use Rattle.trail.specs.WellFormed.{most_words}
use Rattle.trail.proofs.Differences.{difference_line}
use Rattle.cnf.specs.Gates.{Input, gate}
use Rattle.cnf.specs.Gates.Input.{literal, known}
use Rattle.clause_lists.specs.Kinds.{Taken, Carries, gates, taken_input, carry_inputs, parity}
use Rattle.clause_lists.specs.Kinds.Taken.{bit_at, no_bit}
use Rattle.clause_lists.specs.Kinds.Carries.{none, made}
use Rattle.clause_lists.specs.Variables.{Run, bit_variable, variables_before, carry_variable, bit_literal, carry_literal}
use Rattle.clause_lists.specs.Variables.Run.{firstRun, secondRun}
use Rattle.clause_lists.specs.Lists.{inputs, next_clauses, bit_clauses, run_clauses, clauses_in}
use Rattle.clause_lists.specs.Limits.{most_variables}
use Rattle.sheet.specs.declared.Header.{Header}
use Rattle.sheet.specs.Fields.{trail_of}
use Rattle.sheet.specs.Facts.{SheetRead}
use Rattle.sheet.proofs.WellFormed.{line_at_right}
use Rattle.run_literals.specs.declared.LineRun.{LineRun}
use Rattle.run_literals.specs.Proper.{ProperRun}
use Rattle.run_literals.specs.Run.{signed_literal, difference_in, word_in, carry_in}
use Rattle.clause_writer.specs.Writing.{clauses_of_run}
use Rattle.run_literals.proofs.RunLiterals.{made_signed, first_signed, second_signed}
use Rattle.clause_sizes.proofs.SheetCounts.{before_most}

-- ---- a run's clauses depend on the literals of the words that its line names, and of its carries

-- on the literals that a run of a line that makes word j may use, two ways to write them agree
pub record Agree (j : ℕ) (l : Line) (word other : ℕ → ℕ → ℤ) (carry another : ℕ → ℤ) : Type 0 where
  pub made : (i : ℕ) → word j i ≡ other j i
  pub first : (i : ℕ) → word l.first i ≡ other l.first i
  pub second : (i : ℕ) → word l.second i ≡ other l.second i
  pub carries : (i : ℕ) → carry i ≡ another i

module _ (n j : ℕ) (l : Line) (word other : ℕ → ℕ → ℤ) (carry another : ℕ → ℤ) (same : Agree j l word other carry another) where
  taken_same : (p : Taken) → taken_input p (word l.first) ≡ taken_input p (other l.first)
  taken_same (bit_at i) = ap literal (same.first i)
  taken_same no_bit = refl

  others_same : (second constant : Bool) (i : ℕ)
      → cond second (literal (word l.second i) ∷ []) (cond constant (known (bit l.constant i) ∷ []) [])
      ≡ cond second (literal (other l.second i) ∷ []) (cond constant (known (bit l.constant i) ∷ []) [])
  others_same true constant i = ap (λ (x : ℤ). literal x ∷ []) (same.second i)
  others_same false constant i = refl

  carries_same : (cs : Carries) (i : ℕ) → carry_inputs cs carry i ≡ carry_inputs cs another i
  carries_same none i = refl
  carries_same (made next value) zero = refl
  carries_same (made next value) (suc i) = ap (λ (x : ℤ). literal x ∷ []) (same.carries (suc i))

  inputs_same : (i : ℕ) → inputs n j l word carry i ≡ inputs n j l other another i
  inputs_same i =
      ap₂ (λ (x : Input) (is : List Input). x ∷ is) (taken_same ((gates (kind_of l.kind)).taken n l.amount i))
      (ap₂ ◌++◌ (others_same (uses_second (kind_of l.kind)) (uses_constant (kind_of l.kind)) i)
      (carries_same (gates (kind_of l.kind)).carries i))

  next_same : (cs : Carries) (i : ℕ) → next_clauses n j l word carry cs i ≡ next_clauses n j l other another cs i
  next_same none i = refl
  next_same (made next value) i = ap₂ (gate next) (inputs_same i) (same.carries (i + 1))

  pub run_same : run_clauses n j l word carry ≡ run_clauses n j l other another
  unfolding run_clauses bit_clauses
  run_same =
      concat_cong n (bit_clauses n j l word carry) (bit_clauses n j l other another)
      (λ i _.
      ap₂ ◌++◌
      (ap₂ (gate parity) (inputs_same i) (same.made i))
      (ap (λ (cs : List (List ℤ)). cond (ltb (i + 1) n) cs []) (next_same (gates (kind_of l.kind)).carries i)))

-- ---- signs

unsigned : (b c : Bool) → ◌≡◌ {A = ℕ} (cond b 0 (cond c 0 0)) 0
unsigned true c = refl
unsigned false true = refl
unsigned false false = refl

zero_bit : (i : ℕ) → bit 0 i ≡ false
zero_bit i = bit-xor 0 0 i ∙ xor_self (bit 0 i)

module _ (s : List ℕ) (h : Header) (read : SheetRead s h) (k : ℕ) (less : k < h.lines) where
  abbrev t : Trail
  t = trail_of s

  module _ (r : LineRun) (line : r.line ≡ line_at t k) (width : r.width ≡ h.width) (word : r.word ≡ h.inputs + k) where
    -- the run's literals may be taken for the trail's
    same_clauses : (run : Run)
        → Agree r.word r.line (word_in r) (bit_literal t run) (carry_in r) (carry_literal t run k)
        → clauses_of_run r ≡ clauses_in t run k
    unfolding clauses_in
    same_clauses run same =
        run_same r.width r.word r.line (word_in r) (bit_literal t run) (carry_in r) (carry_literal t run k) same
        ∙ ap (λ (n : ℕ). run_clauses n r.word r.line (bit_literal t run) (carry_literal t run k)) (width ∙ sym read.width)
        ∙ ap₂ (λ (j : ℕ) (l : Line). run_clauses t.width j l (bit_literal t run) (carry_literal t run k))
        (word ∙ ap (λ (m : ℕ). m + k) (sym read.inputs)) line

  module _ (l : Line) (v : ℕ) (line : l ≡ line_at t k) (before : v ≡ variables_before t k) where
    carries_most : v + (h.width - 1) ≤ most_variables h.width
    carries_most = omega (arith, before_most s h read k less)

    word_most : h.inputs + k < most_words
    word_most = let limits = read.limits in omega (arith, limits.inputs_most, limits.lines_most)

    -- ---- the first run: no literal is negated

    pub first_proper : ProperRun h.width (h.inputs + k) l 0 0 v
    first_proper = record {
      width_least = read.limits.width_least;
      width_most = omega (arith, read.width_most);
      word_most = word_most;
      carries_most = omega (arith, carries_most);
      line_right = line_at_right s h read k less line;
      alike = λ _. refl;
    }

    module _ (proper : ProperRun h.width (h.inputs + k) l 0 0 v) where
      abbrev first_of : LineRun
      first_of = record { width = h.width; word = h.inputs + k; line = l; first = 0; second = 0; made = 0; carries = v; proper = proper }

      first_word : (j i : ℕ) → word_in first_of j i ≡ bit_literal t firstRun j i
      unfolding word_in signed_literal bit_literal bit_variable
      first_word j i =
          let variable : ℤ = pos (h.width * j + i + 1) in
          ap (λ (d : ℕ). cond (bit d i) (neg_ℤ variable) variable) (unsigned (eqb j (h.inputs + k)) (eqb j l.first))
          ∙ ap (λ (b : Bool). cond b (neg_ℤ variable) variable) (zero_bit i)
          ∙ ap (λ (n : ℕ). pos (n * j + i + 1)) (sym read.width)

      first_carry : (i : ℕ) → carry_in first_of i ≡ carry_literal t firstRun k i
      unfolding carry_in carry_literal carry_variable
      first_carry i = ap (λ (n : ℕ). pos (n + i)) before

      pub first_run_is : clauses_of_run first_of ≡ clauses_in t firstRun k
      first_run_is =
          same_clauses first_of line refl refl firstRun (record {
            made = first_word (h.inputs + k);
            first = first_word l.first;
            second = first_word l.second;
            carries = first_carry;
          })

    -- ---- the second run: the ones of a word's difference negate its literals

    module _ (first second : ℕ) (x : first ≡ difference_at t l.first) (y : second ≡ difference_at t l.second) where
      pub second_proper : ProperRun h.width (h.inputs + k) l first second (v + (h.width - 1))
      second_proper = record {
        width_least = read.limits.width_least;
        width_most = omega (arith, read.width_most);
        word_most = word_most;
        carries_most = carries_most;
        line_right = line_at_right s h read k less line;
        alike = λ e. x ∙ ap (difference_at t) e ∙ sym y;
      }

      module _ (proper : ProperRun h.width (h.inputs + k) l first second (v + (h.width - 1))) where
        abbrev second_of : LineRun
        second_of = record {
          width = h.width;
          word = h.inputs + k;
          line = l;
          first = first;
          second = second;
          made = l.difference;
          carries = v + (h.width - 1);
          proper = proper;
        }

        second_word : (j : ℕ) → difference_in second_of j ≡ difference_at t j → (i : ℕ) → word_in second_of j i ≡ bit_literal t secondRun j i
        unfolding word_in signed_literal bit_literal bit_variable
        second_word j e i =
            ap₂ (λ (n d : ℕ). cond (bit d i) (neg_ℤ (pos (n * j + i + 1))) (pos (n * j + i + 1))) (sym read.width) e

        made_difference : l.difference ≡ difference_at t (h.inputs + k)
        made_difference =
            ap (λ (z : Line). z.difference) line
            ∙ sym (difference_line t k)
            ∙ ap (λ (m : ℕ). difference_at t (m + k)) read.inputs

        second_carry_lem : (i : ℕ) → carry_in second_of i ≡ carry_literal t secondRun k i
        unfolding carry_in carry_literal carry_variable
        second_carry_lem i = ap₂ (λ (b n : ℕ). pos (b + (n - 1) + i)) before (sym read.width)

        pub second_run_is : clauses_of_run second_of ≡ clauses_in t secondRun k
        second_run_is =
            same_clauses second_of line refl refl secondRun (record {
              made = second_word (h.inputs + k) (made_signed second_of ∙ made_difference);
              first = second_word l.first (first_signed second_of ∙ x);
              second = second_word l.second (second_signed second_of ∙ y);
              carries = second_carry_lem;
            })
