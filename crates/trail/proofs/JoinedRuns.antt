-- The runs of a joined trail, and which starting values follow it.
use mathlib.Core.Path.{◌≡◌, refl, sym, ap, ap₂, subst, ◌∙◌}
use mathlib.Core.Bool.{Bool, true, cond, ◌&&◌, and-eq-true_iff}
use mathlib.Core.List.{List}
use Prim.Native.Nat.{ℕ, zero, suc, ◌+◌, ◌^◌, ◌≤◌, ◌<◌}
use native.Mathlib.Omega.{arith}
use lib.Bits.{bit_xor}
use lib.ListN.{length, get_or, length-map}
use lib.Seq.{ext_get_or}
use Rattle.words.specs.Words.{sum_modulo, minus_modulo}
use Rattle.words.proofs.Below.{below_suc, below_or_past, get_or_map_below}
use Rattle.words.proofs.Bits.{bit_xor_cancel}
use Rattle.words.proofs.TruthTables.{same_test}
use Rattle.trail.specs.declared.Line.{Line}
use Rattle.trail.specs.Kinds.{Kind, kind_of, uses_second, makes_as, makes}
use Rattle.trail.specs.Kinds.Kind.{xorWords, xorConstant, rotatesLeft, rotatesRight, addWords, addConstant, shiftsLeft, shiftsRight, subtractWords, unknown}
use Rattle.trail.specs.Trail.{Trail, input_count, line_count, line_at}
use Rattle.trail.specs.WellFormed.{WellFormedLine, WellFormed}
use Rattle.trail.specs.Runs.{run_word, partner, is_start, follows}
use Rattle.trail.specs.Joining.{named, joined_word, joined_line, joined, named_words, JoiningIsRight}
use Rattle.trail.proofs.Runs.{run_input, run_line, run_word_lem, second_below, start_length, start_yes, length_partner, get_or_partner, partner_start, follows_line}
use Rattle.trail.proofs.Differences.{follows_words}
use Rattle.trail.proofs.JoinedNames.{Joinable, joinable}
use Rattle.trail.proofs.JoinedLines.{joined_count, line_first, line_second, word_input, word_line}
use Rattle.trail.proofs.JoinedWellFormed.{joined_well_formed}

-- a renumbered line makes what the line makes
joined_makes : (a b : Trail) (names : List ℕ) (n : ℕ) (l : Line) (x y z : ℕ) → (uses_second (kind_of l.kind) ≡ true → y ≡ z)
    → makes n (joined_line a b names l) x y ≡ makes n l x z
unfolding makes
joined_makes a b names n l x y z same = at (kind_of l.kind) same
  where
    at : (q : Kind) → (uses_second q ≡ true → y ≡ z) → makes_as q n (joined_line a b names l) x y ≡ makes_as q n l x z
    at xorWords h = ap (bit_xor x) (h refl)
    at xorConstant h = refl
    at rotatesLeft h = refl
    at rotatesRight h = refl
    at addWords h = ap (sum_modulo n x) (h refl)
    at addConstant h = refl
    at shiftsLeft h = refl
    at shiftsRight h = refl
    at subtractWords h = ap (minus_modulo n x) (h refl)
    at unknown h = refl

-- the first's starting values are the joined trail's
same_starts : (a b : Trail) (names : List ℕ) (x : List ℕ) → is_start (joined a b names) x ≡ is_start a x
unfolding is_start
same_starts a b names x = refl

same_partner : (a b : Trail) (names : List ℕ) (x : List ℕ) → partner (joined a b names) x ≡ partner a x
unfolding partner
same_partner a b names x = refl

-- ---- one run

module _ {a b : Trail} {names : List ℕ} (can : Joinable a b names) (good_a : WellFormed a) (good_b : WellFormed b)
    (x : List ℕ) (start : is_start a x ≡ true) where
  joined_start : is_start (joined a b names) x ≡ true
  joined_start = same_starts a b names x ∙ start

  good_joined : WellFormed (joined a b names)
  good_joined = joined_well_formed can good_a good_b

  pub named_length : length (named_words a names x) ≡ input_count b
  named_length = length-map names (run_word a x) ∙ can.each_named

  pub named_word : (j : ℕ) → j < input_count b → get_or (named_words a names x) j 0 ≡ run_word a x (named names j)
  named_word j l = get_or_map_below (run_word a x) names j 0 0 (omega (arith, can.each_named))

  -- the named words are a starting value of the second
  pub named_start : is_start b (named_words a names x) ≡ true
  named_start =
      start_yes b (named_words a names x) named_length
      (λ j l.
      subst (λ (n : ℕ). get_or (named_words a names x) j 0 < 2 ^ n) can.same_width
      (rw (named_word j l) (run_word_lem good_a x start (named names j) (can.names_known j l))))

  -- the first's words
  abbrev Kept : ℕ → Type 0
  Kept j = run_word (joined a b names) x j ≡ run_word a x j

  first_made : (k : ℕ) → k < line_count a → ((j : ℕ) → j < input_count a + k → Kept j) → Kept (input_count a + k)
  first_made k h earlier =
      run_line good_joined x joined_start k (omega (arith, joined_count a b names))
      ∙ ap (λ (r : Line). makes a.width r (run_word (joined a b names) x r.first) (run_word (joined a b names) x r.second))
      (line_first a b names k h)
      ∙ ap₂ (makes a.width (line_at a k))
      (earlier (line_at a k).first line.first_earlier)
      (earlier (line_at a k).second (second_below line))
      ∙ sym (run_line good_a x start k h)
    where
      line : WellFormedLine a.width (input_count a + k) (line_at a k)
      line = good_a.lines_right k h

  first_words : (k : ℕ) → k ≤ line_count a → (j : ℕ) → j < input_count a + k → Kept j
  first_words zero h j l = run_input (joined a b names) x j here ∙ sym (run_input a x j here)
    where
      here : j < length x
      here = omega (arith, start_length a x start)
  first_words (suc k) h j l =
      below_suc Kept (input_count a + k) (first_words k (omega arith)) (first_made k h (first_words k (omega arith))) j (omega arith)

  pub run_first : (j : ℕ) → j < input_count a + line_count a → run_word (joined a b names) x j ≡ run_word a x j
  run_first = first_words (line_count a) (omega arith)

  -- the second's words
  abbrev Carried : ℕ → Type 0
  Carried j = run_word (joined a b names) x (joined_word a b names j) ≡ run_word b (named_words a names x) j

  second_made : (k : ℕ) → k < line_count b → ((j : ℕ) → j < input_count b + k → Carried j) → Carried (input_count b + k)
  second_made k h earlier =
      ap word (word_line a b names k)
      ∙ run_line good_joined x joined_start (line_count a + k) (omega (arith, joined_count a b names))
      ∙ ap (λ (r : Line). makes a.width r (word r.first) (word r.second)) (line_second a b names k h)
      ∙ joined_makes a b names a.width (line_at b k) (word (joined_word a b names (line_at b k).first))
      (word (cond (uses_second (kind_of (line_at b k).kind)) (joined_word a b names (line_at b k).second) 0))
      (run_word b z (line_at b k).second)
      second
      ∙ ap₂ (λ (n y : ℕ). makes n (line_at b k) y (run_word b z (line_at b k).second)) can.same_width
      (earlier (line_at b k).first line.first_earlier)
      ∙ sym (run_line good_b z named_start k h)
    where
      line : WellFormedLine b.width (input_count b + k) (line_at b k)
      line = good_b.lines_right k h

      word : ℕ → ℕ
      word = run_word (joined a b names) x

      z : List ℕ
      z = named_words a names x

      second : uses_second (kind_of (line_at b k).kind) ≡ true
          → word (cond (uses_second (kind_of (line_at b k).kind)) (joined_word a b names (line_at b k).second) 0) ≡ run_word b z (line_at b k).second
      second used =
          ap (λ (t : Bool). word (cond t (joined_word a b names (line_at b k).second) 0)) used
          ∙ earlier (line_at b k).second (line.second_earlier used)

  second_words : (k : ℕ) → k ≤ line_count b → (j : ℕ) → j < input_count b + k → Carried j
  second_words zero h j l =
      ap (run_word (joined a b names) x) (word_input a b names j here)
      ∙ run_first (named names j) (can.names_known j here)
      ∙ sym (named_word j here)
      ∙ sym (run_input b (named_words a names x) j (omega (arith, named_length)))
    where
      here : j < input_count b
      here = omega arith
  second_words (suc k) h j l =
      below_suc Carried (input_count b + k) (second_words k (omega arith)) (second_made k h (second_words k (omega arith))) j (omega arith)

  pub run_second : (k : ℕ) → k < line_count b
      → run_word (joined a b names) x (input_count a + (line_count a + k)) ≡ run_word b (named_words a names x) (input_count b + k)
  run_second k l =
      sym (ap (run_word (joined a b names) x) (word_line a b names k)) ∙ second_words (line_count b) (omega arith) (input_count b + k) (omega arith)

-- ---- two runs

module _ {a b : Trail} {names : List ℕ} (can : Joinable a b names) (good_a : WellFormed a) (good_b : WellFormed b)
    (x : List ℕ) (start : is_start a x ≡ true) where
  other : is_start a (partner a x) ≡ true
  other = partner_start good_a x start

  -- Where the first is followed, the second's partner of the named words is the partner's named words. Only here do runs rest on the
  -- differences of the named words.
  pub named_partner : follows a x ≡ true → partner b (named_words a names x) ≡ named_words a names (partner a x)
  named_partner f =
      ext_get_or 0 (partner b (named_words a names x)) (named_words a names (partner a x))
      (many ∙ sym (named_length can good_a good_b (partner a x) other))
      (λ j l. each j (omega (arith, many)))
    where
      many : length (partner b (named_words a names x)) ≡ input_count b
      many = length_partner b (named_words a names x) ∙ named_length can good_a good_b x start

      each : (j : ℕ) → j < input_count b → get_or (partner b (named_words a names x)) j 0 ≡ get_or (named_words a names (partner a x)) j 0
      each j l =
          get_or_partner b (named_words a names x) j (omega (arith, named_length can good_a good_b x start))
          ∙ ap₂ bit_xor (named_word can good_a good_b x start j l)
          (sym (can.names_differ j l) ∙ sym ((follows_words good_a x start).0 f word (can.names_known j l)))
          ∙ bit_xor_cancel a.width (run_word a x word) (run_word a (partner a x) word)
          (run_word_lem good_a x start word (can.names_known j l))
          (run_word_lem good_a (partner a x) other word (can.names_known j l))
          ∙ sym (named_word can good_a good_b (partner a x) other j l)
        where
          word : ℕ
          word = named names j

  -- the two runs' difference at a word of the first, and at a line of the second where the first is followed
  differ_first : (j : ℕ) → j < input_count a + line_count a
      → bit_xor (run_word (joined a b names) x j) (run_word (joined a b names) (partner (joined a b names) x) j)
      ≡ bit_xor (run_word a x j) (run_word a (partner a x) j)
  differ_first j l =
      ap₂ bit_xor (run_first can good_a good_b x start j l)
      (ap (λ (y : List ℕ). run_word (joined a b names) y j) (same_partner a b names x) ∙ run_first can good_a good_b (partner a x) other j l)

  differ_second : follows a x ≡ true → (k : ℕ) → k < line_count b
      → bit_xor (run_word (joined a b names) x (input_count a + (line_count a + k)))
      (run_word (joined a b names) (partner (joined a b names) x) (input_count a + (line_count a + k)))
      ≡ bit_xor (run_word b (named_words a names x) (input_count b + k))
      (run_word b (partner b (named_words a names x)) (input_count b + k))
  differ_second f k l =
      ap₂ bit_xor (run_second can good_a good_b x start k l)
      (ap (λ (y : List ℕ). run_word (joined a b names) y (input_count a + (line_count a + k))) (same_partner a b names x)
      ∙ run_second can good_a good_b (partner a x) other k l
      ∙ ap (λ (y : List ℕ). run_word b y (input_count b + k)) (sym (named_partner f)))

  first_followed : follows (joined a b names) x ≡ true → follows a x ≡ true
  first_followed f =
      (follows_line a x).1
      (λ k l.
      sym (differ_first (input_count a + k) (omega arith))
      ∙ (follows_line (joined a b names) x).0 f k (omega (arith, joined_count a b names))
      ∙ ap (λ (r : Line). r.difference) (line_first a b names k l))

  second_followed : follows (joined a b names) x ≡ true → follows b (named_words a names x) ≡ true
  second_followed f =
      (follows_line b (named_words a names x)).1
      (λ k l.
      sym (differ_second (first_followed f) k l)
      ∙ (follows_line (joined a b names) x).0 f (line_count a + k) (omega (arith, joined_count a b names))
      ∙ ap (λ (r : Line). r.difference) (line_second a b names k l))

  abbrev LineFollows : ℕ → Type 0
  LineFollows k =
      bit_xor (run_word (joined a b names) x (input_count a + k)) (run_word (joined a b names) (partner (joined a b names) x) (input_count a + k))
      ≡ (line_at (joined a b names) k).difference

  joined_followed : follows a x ≡ true → follows b (named_words a names x) ≡ true → follows (joined a b names) x ≡ true
  joined_followed f g =
      (follows_line (joined a b names) x).1
      (λ k h.
      below_or_past (λ k. k < line_count a + line_count b → LineFollows k) (line_count a)
      (λ k l _.
      differ_first (input_count a + k) (omega arith)
      ∙ (follows_line a x).0 f k l
      ∙ sym (ap (λ (r : Line). r.difference) (line_first a b names k l)))
      (λ k l.
      differ_second f k (omega arith)
      ∙ (follows_line b (named_words a names x)).0 g k (omega arith)
      ∙ sym (ap (λ (r : Line). r.difference) (line_second a b names k (omega arith))))
      k
      (omega (arith, joined_count a b names)))

  pub both_followed : follows (joined a b names) x ≡ (follows a x && follows b (named_words a names x))
  both_followed =
      same_test (follows (joined a b names) x) (follows a x && follows b (named_words a names x))
      (λ f. (and-eq-true_iff (follows a x) (follows b (named_words a names x))).1 (first_followed f, second_followed f))
      (λ f. let two = (and-eq-true_iff (follows a x) (follows b (named_words a names x))).0 f in joined_followed two.0 two.1)

pub joining_is_right : JoiningIsRight
joining_is_right a b names good_a good_b width right =
    let can = joinable a b names width right in
    record {
      well_formed = joined_well_formed can good_a good_b;
      lines = joined_count a b names;
      starts = same_starts a b names;
      second_starts = named_start can good_a good_b;
      both_followed = both_followed can good_a good_b;
    }
