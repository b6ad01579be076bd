-- Counts turned into starts, word by word, and the counts written where the parts start.
use Prim.Native.Nat.{ℕ, ◌+◌, ◌-◌, ◌<◌, ◌≤◌}
use native.Mathlib.Omega.{arith}
use mathlib.Core.Path.{◌≡◌, sym, ap, subst, ◌∙◌}
use mathlib.Core.List.{List}
use lib.ListN.{length, get_or, set, length-set}
use lib.Seq.{get_or-set_same, get_or-set_other}
use Rattle.words.proofs.Below.{below_suc}
use Rattle.trail.specs.Trail.{Trail}
use Rattle.trail.specs.WellFormed.{most_words}
use Rattle.sheet_indexes.specs.Users.{users}
use Rattle.sheet_indexes.specs.Index.{word_count, index_of, part_start}
use Rattle.sheet_indexes.proofs.Index.{index_length, start_none, start_next, part_inside, index_count}
use Rattle.index_writer.specs.Placing.{Kept, Stands, Placed}
use Rattle.index_writer.proofs.Standing.{stored, stands_stored, stands_count}

-- of the first j words the starts are kept, of the others the counts
pub record Started (t : Trail) (j next : ℕ) (l : List ℕ) : Type 0 where
  pub long : length l ≡ most_words
  pub next_is : next ≡ part_start t j
  pub starts : (x : ℕ) → x < j → get_or l x 0 ≡ part_start t x
  pub counts : (x : ℕ) → j ≤ x → x < word_count t → get_or l x 0 ≡ length (users t x)

module _ (t : Trail) where
  pub started_none : {f : ℕ → ℕ} {l : List ℕ} → word_count t ≤ most_words → ((x : ℕ) → f x ≡ length (users t x)) → Kept most_words f l
      → Started t 0 0 l
  started_none few counted kept = record {
    long = kept.long;
    next_is = sym (start_none t);
    starts = λ x h. absurd (omega arith);
    counts = λ x h known. kept.each x (omega arith) ∙ counted x;
  }

  pub started_next : {j next : ℕ} {l : List ℕ} → word_count t ≤ most_words → j < word_count t → Started t j next l
      → Started t (j + 1) (next + (1 + get_or l j 0)) (set l j next)
  started_next {j} {next} {l} few known s = record {
    long = length-set l j next ∙ s.long;
    next_is = omega (arith, s.next_is, s.counts j (omega arith) known, start_next t j);
    starts = λ x h.
        below_suc (λ x. get_or (set l j next) x 0 ≡ part_start t x) j
        (λ x less. get_or-set_other l j x next 0 (λ e. omega arith) ∙ s.starts x less)
        (get_or-set_same l j next 0 (omega (arith, s.long)) ∙ s.next_is) x (omega arith);
    counts = λ x h inside. get_or-set_other l j x next 0 (λ e. omega arith) ∙ s.counts x (omega arith) inside;
  }

  pub started_all : {j next : ℕ} {l : List ℕ} → j ≡ word_count t → Started t j next l
      → (next ≡ length (index_of t)) × Kept (word_count t) (part_start t) l
  started_all {j} {next} {l} e s = (
    s.next_is ∙ ap (part_start t) e ∙ sym (index_length t),
    record { long = s.long; each = λ x h. s.starts x (omega arith) },
  )

  -- ---- the counts are written

  module _ {l last m : List ℕ} (placed : Placed t (λ j. length (users t j)) l last m) (j : ℕ) (known : j < word_count t) where
    -- the part's last position
    pub last_is : get_or last j 0 ≡ part_start t j + length (users t j)
    last_is = placed.kept.each j known

    pub start_inside : part_start t j < length (index_of t)
    start_inside = omega (arith, part_inside t j known)

    -- the count is what the index has there
    pub count_written : {at : ℕ} {b out : List ℕ} → at ≡ part_start t j → length (index_of t) ≤ length b
        → Stands t j (λ x. length (users t x)) b out → Stands t (j + 1) (λ x. length (users t x)) b (set out at (get_or last j 0 - at))
    count_written {at} {b} {out} here room s =
        let count : get_or last j 0 - at ≡ length (users t j) = omega (arith, last_is) in
        let right : get_or last j 0 - at ≡ get_or (index_of t) (part_start t j) 0 = count ∙ sym (index_count t j known) in
        subst (λ (q : ℕ). Stands t (j + 1) (λ x. length (users t x)) b (set out q (get_or last j 0 - at))) (sym here)
        (stands_count t (stands_stored t s (part_start t j) (get_or last j 0 - at) room start_inside right)
        (stored t s (part_start t j) (get_or last j 0 - at) room start_inside right))

    pub next_start : get_or last j 0 + 1 ≡ part_start t (j + 1)
    next_start = omega (arith, last_is, start_next t j)
