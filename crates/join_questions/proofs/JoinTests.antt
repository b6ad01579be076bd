-- The tests of two sheets and of the names, in the order in which the code makes them.
use Prim.Native.Nat.{ℕ, ◌+◌, ◌≤◌, ◌<◌}
use mathlib.Core.Path.{◌≡◌, ap, ap₂}
use mathlib.Core.Bool.{Bool, true, false, not}
use mathlib.Core.List.{List}
use borrow.Author.Tests.{eq-eqb, ne_eqb, lt-ltb, le-ltb, le-leb, lt-leb}
use lib.Dec.{eqb}
use lib.ListN.{length, get_or}
use Rattle.words.specs.Below.{any, all}
use Rattle.trail.specs.Trail.{Trail, input_count, line_count, difference_at}
use Rattle.trail.specs.WellFormed.{most_lines}
use Rattle.trail.specs.Joining.{named, name_right, names_right}
use Rattle.sheet.specs.Asking.{verdict}
use Rattle.sheet.specs.Asking.Verdict.{accepted, refused}
use Rattle.sheet.specs.Fields.{trail_of}
use Rattle.sheet.specs.declared.Header.{Header}
use Rattle.sheet.proofs.Asking.{comes}
use Rattle.sheet.proofs.Asking.Comes.{done, yes, no}
use Rattle.sheet.proofs.Testing.{and_stops, and_goes_on}
use Rattle.joined_sheets.specs.JoinedSheet.{join_questions}

-- ---- a name

module _ (a b : Trail) (names : List ℕ) (j : ℕ) where
  pub name_unknown : input_count a + line_count a ≤ named names j → false ≡ name_right a b names j
  unfolding name_right
  name_unknown past = and_stops _ _ (le-ltb (named names j) (input_count a + line_count a) past)

  module _ (known : named names j < input_count a + line_count a) where
    pub name_twice : any j (λ i. eqb (named names i) (named names j)) ≡ true → false ≡ name_right a b names j
    unfolding name_right
    name_twice twice =
        and_goes_on _ _ (lt-ltb (named names j) (input_count a + line_count a) known) (and_stops _ _ (ap not twice))

    pub name_compared : any j (λ i. eqb (named names i) (named names j)) ≡ false → {x y : ℕ} → x ≡ difference_at a (named names j)
        → y ≡ get_or b.inputs j 0 → eqb x y ≡ name_right a b names j
    unfolding name_right
    name_compared once x-is y-is =
        and_goes_on _ _ (lt-ltb (named names j) (input_count a + line_count a) known) (and_goes_on _ _ (ap not once) (ap₂ eqb x-is y-is))

-- ---- the list

module _ (a b : Trail) (names : List ℕ) where
  pub names_miscounted : (length names ≡ input_count b → ⊥) → false ≡ names_right a b names
  unfolding names_right
  names_miscounted other = and_stops _ _ (ne_eqb (length names) (input_count b) other)

  pub names_counted : length names ≡ input_count b → {r : Bool} → r ≡ all (length names) (name_right a b names) → r ≡ names_right a b names
  unfolding names_right
  names_counted many = and_goes_on _ _ (eq-eqb (length names) (input_count b) many)

-- ---- questions 20 to 22

module _ (first second names : List ℕ) (h : Header) where
  abbrev a : Trail
  a = trail_of first

  abbrev b : Trail
  b = trail_of second

  pub widths_differ : (a.width ≡ b.width → ⊥) → refused 20 0 ≡ verdict (join_questions first second names) h
  unfolding join_questions
  widths_differ other = comes (no (ne_eqb a.width b.width other))

  module _ (width : a.width ≡ b.width) where
    pub names_wrong : names_right a b names ≡ false → refused 21 0 ≡ verdict (join_questions first second names) h
    unfolding join_questions
    names_wrong wrong = comes (yes (eq-eqb a.width b.width width) (no wrong))

    module _ (right : names_right a b names ≡ true) where
      pub lines_many : most_lines < line_count a + line_count b → refused 22 0 ≡ verdict (join_questions first second names) h
      unfolding join_questions
      lines_many many = comes (yes (eq-eqb a.width b.width width) (yes right (no (lt-leb (line_count a + line_count b) most_lines many))))

      pub all_pass_lem : line_count a + line_count b ≤ most_lines → accepted h ≡ verdict (join_questions first second names) h
      unfolding join_questions
      all_pass_lem few = comes (yes (eq-eqb a.width b.width width) (yes right (yes (le-leb (line_count a + line_count b) most_lines few) done)))
