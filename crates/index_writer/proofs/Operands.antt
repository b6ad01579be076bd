-- The words that a line of a sheet that was read names, and the counts and positions kept for them when the line has been passed.
use Prim.Native.Nat.{ℕ, ◌+◌, ◌^◌, ◌<◌, ◌≤◌}
use native.Mathlib.Nat.{add_assoc}
use native.Mathlib.Omega.{arith}
use mathlib.Core.Path.{◌≡◌, sym, ap, subst, ◌∙◌}
use mathlib.Core.Bool.{true, false}
use mathlib.Core.List.{List}
use borrow.Author.Tests.{ne_eqb}
use lib.Dec.{eqb}
use lib.ListN.{length, get_or, set}
use Rattle.words.specs.Words.{value}
use Rattle.words.proofs.Below.{count_le}
use Rattle.words.proofs.Bits.{value_lt}
use Rattle.trail.specs.declared.Line.{Line}
use Rattle.trail.specs.Trail.{Trail, input_count, line_count, line_at}
use Rattle.trail.specs.WellFormed.{WellFormedLine, most_words}
use Rattle.sheet.specs.Fields.{trail_of}
use Rattle.sheet.specs.Facts.{SheetRead}
use Rattle.sheet.specs.declared.Header.{Header}
use Rattle.sheet_indexes.specs.Users.{names_word, users}
use Rattle.sheet_indexes.specs.Index.{word_count, index_of, part_start}
use Rattle.sheet_indexes.proofs.Users.{user_inside, user_at}
use Rattle.sheet_indexes.proofs.Index.{part_inside, index_user}
use Rattle.sheet_indexes.proofs.Sizes.{index_most}
use Rattle.index_writer.specs.Placing.{names_another, users_before, Kept, At, Stands, Placed}
use Rattle.index_writer.proofs.Naming.{names_first, one_word, second_used, words_differ, names_second, two_words_lem, users_next}
use Rattle.index_writer.proofs.Keeping.{kept_as, kept_raised}
use Rattle.index_writer.proofs.Standing.{stored, stands_stored, stands_line, stands_as}

module _ {s : List ℕ} {h : Header} (read : SheetRead s h) where
  abbrev t : Trail
  t = trail_of s

  pub words_read : word_count t ≡ h.inputs + h.lines
  words_read = omega (arith, read.inputs, read.lines)

  pub words_most : word_count t ≤ most_words
  words_most = omega (arith, words_read, read.limits.inputs_most, read.limits.lines_most)

  module _ (i : ℕ) (l : i < h.lines) {line : Line} (is : line ≡ line_at t i) where
    there : i < line_count t
    there = omega (arith, read.lines)

    right : WellFormedLine t.width (input_count t + i) line
    right = subst (WellFormedLine t.width (input_count t + i)) (sym is) (read.well_formed.lines_right i there)

    pub first_word : line.first < word_count t
    first_word = omega (arith, right.first_earlier, there)

    pub second_word : names_another line ≡ true → line.second < word_count t
    second_word another = omega (arith, right.second_earlier (second_used line another), there)

    -- ---- all that it names is counted

    next_count : (j : ℕ) → users_before t i j + value (names_word line j) ≡ users_before t (i + 1) j
    next_count j = ap (λ (r : Line). users_before t i j + value (names_word r j)) is ∙ sym (users_next t i j)

    pub after_one : names_another line ≡ false → (j : ℕ) → users_before t i j + value (eqb line.first j) ≡ users_before t (i + 1) j
    after_one none j = ap (λ (n : ℕ). users_before t i j + n) (one_word line none j) ∙ next_count j

    pub after_two : names_another line ≡ true → (j : ℕ)
        → users_before t i j + value (eqb line.first j) + value (eqb line.second j) ≡ users_before t (i + 1) j
    after_two another j =
        add_assoc (users_before t i j) (value (eqb line.first j)) (value (eqb line.second j))
        ∙ ap (λ (n : ℕ). users_before t i j + n) (two_words_lem line another j)
        ∙ next_count j

    module _ {c : List ℕ} (kept : Kept most_words (users_before t i) c) where
      abbrev one : List ℕ
      one = set c line.first (get_or c line.first 0 + 1)

      raised : Kept most_words (λ j. users_before t i j + value (eqb line.first j)) one
      raised = kept_raised line.first (omega (arith, first_word, words_most)) kept

      -- no count is more than that of the lines
      pub first_small : get_or c line.first 0 + 1 < 2 ^ 16
      first_small =
          omega (
            arith,
            kept.each line.first (omega (arith, first_word, words_most)),
            count_le i (λ x. names_word (line_at t x) line.first),
            read.limits.lines_most,
          )

      pub counted_one : names_another line ≡ false → Kept most_words (users_before t (i + 1)) one
      counted_one none = kept_as (after_one none) raised

      module _ (another : names_another line ≡ true) where
        inside : line.second < most_words
        inside = omega (arith, second_word another, words_most)

        pub second_small : get_or one line.second 0 + 1 < 2 ^ 16
        second_small =
            omega (
              arith,
              raised.each line.second inside,
              count_le i (λ x. names_word (line_at t x) line.second),
              value_lt (eqb line.first line.second),
              read.limits.lines_most,
            )

        pub counted_two : Kept most_words (users_before t (i + 1)) (set one line.second (get_or one line.second 0 + 1))
        counted_two =
            kept_as (after_two another) (kept_raised line.second inside raised)

  -- ---- placing

  -- the same lines, said otherwise
  pub placed_as : {c e : ℕ → ℕ} {l last m : List ℕ} → ((j : ℕ) → c j ≡ e j) → Placed t c l last m → Placed t e l last m
  placed_as same placed = record {
    kept = kept_as (λ j. ap (λ (n : ℕ). part_start t j + n) (same j)) placed.kept;
    stands = stands_as t same placed.stands;
  }

  -- line i is the next of word w
  module _ {c : ℕ → ℕ} {l last m : List ℕ} (placed : Placed t c l last m) (room : length (index_of t) ≤ length l) (w i : ℕ)
      (known : w < word_count t) (fits : c w < length (users t w)) (next : get_or (users t w) (c w) 0 ≡ i) where
    place_is : get_or last w 0 + 1 ≡ part_start t w + 1 + c w
    place_is = omega (arith, placed.kept.each w known)

    place_inside : get_or last w 0 + 1 < length (index_of t)
    place_inside = omega (arith, place_is, part_inside t w known)

    right_there : i ≡ get_or (index_of t) (get_or last w 0 + 1) 0
    right_there = sym (ap (λ (q : ℕ). get_or (index_of t) q 0) place_is ∙ index_user t w known (c w) fits ∙ next)

    -- there is room for it,
    pub place_fits : (w < most_words) × (get_or last w 0 + 1 < 2 ^ 16) × (get_or last w 0 + 1 < length m)
    place_fits = (
      omega (arith, words_most),
      omega (arith, place_inside, index_most read),
      omega (arith, place_inside, placed.stands.long),
    )

    -- and it stands
    pub place_taken : {later after : List ℕ} → later ≡ set last w (get_or last w 0 + 1) → after ≡ set m (get_or last w 0 + 1) i
        → Placed t (λ j. c j + value (eqb w j)) l later after
    place_taken e f = record {
      kept =
          subst (Kept (word_count t) (λ j. part_start t j + (c j + value (eqb w j)))) (sym e)
          (kept_as (λ j. add_assoc (part_start t j) (c j) (value (eqb w j))) (kept_raised w (omega (arith, words_most)) placed.kept));
      stands =
          subst (Stands t 0 (λ j. c j + value (eqb w j)) l) (sym f)
          (stands_line t w (stands_stored t placed.stands (get_or last w 0 + 1) i room place_inside right_there)
          (subst (At t (set m (get_or last w 0 + 1) i)) place_is (stored t placed.stands (get_or last w 0 + 1) i room place_inside right_there)));
    }

  -- a line's places, in the parts of the words that it names
  module _ (i : ℕ) (l : i < h.lines) {line : Line} (is : line ≡ line_at t i) where
    is_next : (w : ℕ) → names_word line w ≡ true → (users_before t i w < length (users t w)) × (get_or (users t w) (users_before t i w) 0 ≡ i)
    is_next w e =
        let names = ap (λ (r : Line). names_word r w) (sym is) ∙ e in
        (user_inside t w i (omega (arith, read.lines)) names, user_at t w i (omega (arith, read.lines)) names)

    pub first_next : (users_before t i line.first < length (users t line.first))
        × (get_or (users t line.first) (users_before t i line.first) 0 ≡ i)
    first_next = is_next line.first (names_first line)

    -- the second word is another, so that its count is the same as before
    pub second_next : names_another line ≡ true
        → (users_before t i line.second + value (eqb line.first line.second) < length (users t line.second))
        × (get_or (users t line.second) (users_before t i line.second + value (eqb line.first line.second)) 0 ≡ i)
    second_next another =
        let same : users_before t i line.second ≡ users_before t i line.second + value (eqb line.first line.second) =
        omega (arith, ap value (ne_eqb line.first line.second (words_differ line another))) in
        subst (λ (n : ℕ). (n < length (users t line.second)) × (get_or (users t line.second) n 0 ≡ i)) same
        (is_next line.second (names_second line another))
