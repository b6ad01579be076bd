-- An index written number by number, each where it belongs: none is ever written over by another, as whatever is written at a position
-- is what the index has there.
use Prim.Native.Nat.{ℕ, ◌+◌, ◌<◌, ◌≤◌}
use native.Mathlib.Decide.{dec_lt, ℕ_discrete}
use native.Mathlib.Nat.{zero-add}
use native.Mathlib.Omega.{arith}
use mathlib.Core.Path.{◌≡◌, refl, sym, ap, ap₂, subst, ◌∙◌}
use mathlib.Core.List.{List, ◌++◌}
use borrow.Author.Tests.{eq-eqb, ne_eqb}
use lib.Dec.{eqb}
use lib.ListN.{length, get_or, set, take, drop, length-set, take-append-drop}
use lib.Seq.{get_or-set_same, get_or-set_other, drop-set-lt, ext_get_or, length-take-le, get_or-take}
use Rattle.words.specs.Words.{value}
use Rattle.words.proofs.Below.{below_suc}
use Rattle.buffers.specs.Overwrite.{overwrite}
use Rattle.trail.specs.Trail.{Trail}
use Rattle.sheet_indexes.specs.Users.{users}
use Rattle.sheet_indexes.specs.Index.{word_count, index_of, part_start}
use Rattle.sheet_indexes.proofs.Index.{index_each}
use Rattle.index_writer.specs.Placing.{At, Stands}

module _ (t : Trail) where
  pub stands_none : {c : ℕ → ℕ} (l : List ℕ) → ((j : ℕ) → c j ≡ 0) → Stands t 0 c l l
  stands_none l none = record {
    long = refl;
    counts = λ j h. absurd (omega arith);
    lines = λ j p h less. absurd (omega (arith, none j));
    rest = refl;
  }

  -- the same lines, said otherwise
  pub stands_as : {n : ℕ} {c e : ℕ → ℕ} {l m : List ℕ} → ((j : ℕ) → c j ≡ e j) → Stands t n c l m → Stands t n e l m
  stands_as same s = record {
    long = s.long;
    counts = s.counts;
    lines = λ j p h less. s.lines j p h (omega (arith, same j));
    rest = s.rest;
  }

  -- what stands in a buffer, said of the buffer as it is,
  pub stands_now : {c : ℕ → ℕ} {l m : List ℕ} → Stands t 0 c l m → Stands t 0 c m m
  stands_now s = record { long = refl; counts = s.counts; lines = s.lines; rest = refl }

  -- and of one that it was before
  pub stands_since : {n o : ℕ} {c e : ℕ → ℕ} {l m k : List ℕ} → Stands t n c l m → Stands t o e m k → Stands t o e l k
  stands_since s r = record {
    long = r.long ∙ s.long;
    counts = r.counts;
    lines = r.lines;
    rest = r.rest ∙ s.rest;
  }

  -- a number that the index has at q, written there
  module _ {n : ℕ} {c : ℕ → ℕ} {l m : List ℕ} (s : Stands t n c l m) (q v : ℕ) (room : length (index_of t) ≤ length l)
      (inside : q < length (index_of t)) (right : v ≡ get_or (index_of t) q 0) where
    pub stored : At t (set m q v) q
    stored = get_or-set_same m q v 0 (omega (arith, s.long)) ∙ right

    still : (p : ℕ) → At t m p → At t (set m q v) p
    still p here = at (ℕ_discrete p q)
      where
        at : Dec (p ≡ q) → At t (set m q v) p
        at (yes e) = subst (At t (set m q v)) (sym e) stored
        at (no other) = get_or-set_other m q p v 0 other ∙ here

    pub stands_stored : Stands t n c l (set m q v)
    stands_stored = record {
      long = length-set m q v ∙ s.long;
      counts = λ j h. still (part_start t j) (s.counts j h);
      lines = λ j p h less. still (part_start t j + 1 + p) (s.lines j p h less);
      rest = drop-set-lt (length (index_of t)) m q v inside ∙ s.rest;
    }

  -- word w's next line stands
  pub stands_line : {n : ℕ} {c : ℕ → ℕ} {l m : List ℕ} (w : ℕ) → Stands t n c l m → At t m (part_start t w + 1 + c w)
      → Stands t n (λ j. c j + value (eqb w j)) l m
  stands_line {n} {c} {l} {m} w s here = record {
    long = s.long;
    counts = s.counts;
    lines = λ j p h less. at j p h less (ℕ_discrete w j) (dec_lt p (c j));
    rest = s.rest;
  }
    where
      at : (j p : ℕ) → j < word_count t → p < c j + value (eqb w j) → Dec (w ≡ j) → Dec (p < c j) → At t m (part_start t j + 1 + p)
      at j p h less same (yes before) = s.lines j p h before
      at j p h less (no other) (no past) = absurd (omega (arith, ap value (ne_eqb w j other)))
      at j p h less (yes e) (no past) =
          let last : p ≡ c j = omega (arith, ap value (eq-eqb w j e)) in
          subst (λ (i : ℕ). At t m (part_start t j + 1 + i)) (sym last) (subst (λ (i : ℕ). At t m (part_start t i + 1 + c i)) e here)

  -- the next count stands
  pub stands_count : {n : ℕ} {c : ℕ → ℕ} {l m : List ℕ} → Stands t n c l m → At t m (part_start t n) → Stands t (n + 1) c l m
  stands_count {n} {c} {l} {m} s here = record {
    long = s.long;
    counts = λ j h. below_suc (λ i. At t m (part_start t i)) n s.counts here j (omega arith);
    lines = s.lines;
    rest = s.rest;
  }

  -- all stands
  pub stands_all : {l m : List ℕ} → length (index_of t) ≤ length l → Stands t (word_count t) (λ j. length (users t j)) l m
      → m ≡ overwrite 0 (index_of t) l
  unfolding overwrite
  stands_all {l} {m} room s =
      let long : length (take (length (index_of t)) m) ≡ length (index_of t) = length-take-le (length (index_of t)) m (omega (arith, s.long)) in
      sym (take-append-drop (length (index_of t)) m)
      ∙ ap₂ ◌++◌
      (ext_get_or 0 (take (length (index_of t)) m) (index_of t) long
      (λ q h. get_or-take (length (index_of t)) m q 0 (omega arith) ∙ each q (omega arith)))
      (s.rest ∙ ap (λ (n : ℕ). drop n l) (sym (zero-add (length (index_of t)))))
    where
      each : (q : ℕ) → q < length (index_of t) → At t m q
      each = index_each t (At t m) (λ j h. s.counts j h) (λ j h p less. s.lines j p h less)
