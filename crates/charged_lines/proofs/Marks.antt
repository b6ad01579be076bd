-- The marks beside the list: what a mark that is not set says, and that every line of the list stays marked.
use Prim.Native.Nat.{ℕ, ◌+◌, ◌*◌, ◌≤◌, ◌<◌}
use native.Mathlib.Omega.{arith}
use mathlib.Core.Path.{◌≡◌, refl, sym, ap, subst, ◌∙◌}
use mathlib.Core.Bool.{Bool, true, false, not, cond, true≢false, false≢true}
use mathlib.Core.List.{List}
use borrow.Author.Tests.{eqb-true, eqb-false}
use lib.Dec.{eqb}
use lib.ListN.{length, get_or, set, length-set}
use lib.Seq.{get_or-set_same, get_or-set_other}
use Rattle.words.proofs.Below.{below_suc, any_none, any_found, any_witness}
use Rattle.buffers.specs.Overwrite.{overwrite}
use Rattle.buffers.proofs.Overwrite.{overwrite_length}
use Rattle.trail.specs.declared.Line.{Line}
use Rattle.listed_lines.specs.Listed.{line_numbers, numbers_of, stands_at, is_listed}
use Rattle.charged_lines.specs.Charged.{marks_count, mark_of, is_marked, Marked}
use Rattle.listed_lines.proofs.Listed.{stands_one, stands_written, stands_before}

-- a line whose mark is not set is not in the list
pub unlisted : {s : List ℕ} {count : ℕ} {marks : List ℕ} → Marked s count marks → (l : Line) → is_marked marks l ≡ false
    → is_listed s count l ≡ false
unlisted {s} {count} m l e = at (is_listed s count l) refl
  where
    at : (listed : Bool) → is_listed s count l ≡ listed → listed ≡ false
    at true f = absurd (true≢false (sym (m.marked l f) ∙ e))
    at false f = refl

-- no line is in the list, so none has to be marked
pub marked_none : (s marks : List ℕ) → Marked s 0 marks
unfolding is_listed
marked_none s marks = record { marked = λ l e. absurd (false≢true (sym (any_none _) ∙ e)) }

-- One mark more is set: it is set, and those that were are.
module _ (marks : List ℕ) (room : length marks ≡ marks_count) (l : Line) where
  place : mark_of l < marks_count
  unfolding mark_of
  place = omega arith

  mark_set : is_marked (set marks (mark_of l) 1) l ≡ true
  unfolding is_marked
  mark_set = ap (λ (v : ℕ). not (eqb v 0)) (get_or-set_same marks (mark_of l) 1 0 (omega (arith, place)))

  mark_stays : (q : Line) → is_marked marks q ≡ true → is_marked (set marks (mark_of l) 1) q ≡ true
  unfolding is_marked
  mark_stays q e = at (eqb (mark_of q) (mark_of l)) refl
    where
      at : (same : Bool) → eqb (mark_of q) (mark_of l) ≡ same → is_marked (set marks (mark_of l) 1) q ≡ true
      at true f = ap (λ (i : ℕ). not (eqb (get_or (set marks (mark_of l) 1) i 0) 0)) (eqb-true _ _ f) ∙ mark_set
      at false f = ap (λ (v : ℕ). not (eqb v 0)) (get_or-set_other marks (mark_of l) (mark_of q) 1 0 (eqb-false _ _ f)) ∙ e

-- A line is written behind the others and its mark is set: then each line of the list is that one, or was in it.
module _ {s : List ℕ} {count : ℕ} {marks : List ℕ} (m : Marked s count marks) (l : Line) (room : line_numbers * count + line_numbers ≤ length s)
    (marks-room : length marks ≡ marks_count) where
  pub marked_written : Marked (overwrite (line_numbers * count) (numbers_of l) s) (count + 1) (set marks (mark_of l) 1)
  unfolding is_listed
  marked_written = record {
    marked = λ q e.
        let w = any_witness (count + 1) (λ i. stands_at then (line_numbers * i) (numbers_of q)) e in
        below_suc (λ i. stands_at then (line_numbers * i) (numbers_of q) ≡ true → is_marked (set marks (mark_of l) 1) q ≡ true) count (old q) (new q) w.number (omega (arith, w.below)) w.passes;
  }
    where
      then : List ℕ
      then = overwrite (line_numbers * count) (numbers_of l) s

      old : (q : Line) (i : ℕ) → i < count → stands_at then (line_numbers * i) (numbers_of q) ≡ true → is_marked (set marks (mark_of l) 1) q ≡ true
      old q i h e =
          mark_stays marks marks-room l q
          (m.marked q (any_found count (λ i. stands_at s (line_numbers * i) (numbers_of q)) i h (sym (stands_before s (line_numbers * count) l room (line_numbers * i) q (omega arith)) ∙ e)))

      new : (q : Line) → stands_at then (line_numbers * count) (numbers_of q) ≡ true → is_marked (set marks (mark_of l) 1) q ≡ true
      new q e =
          let same = stands_one then (line_numbers * count) l q (stands_written s (line_numbers * count) l room) e in
          subst (λ (z : Line). is_marked (set marks (mark_of l) 1) z ≡ true) same (mark_set marks marks-room l)

  -- as the code does it, if the line costs something: the lines stay marked, the list as long as it is, and there is one more at the most
  pub marked_charge : (dear : Bool) {then after : List ℕ} {more : ℕ} → more ≡ cond dear (count + 1) count
      → then ≡ cond dear (overwrite (line_numbers * count) (numbers_of l) s) s → after ≡ cond dear (set marks (mark_of l) 1) marks
      → Marked then more after × (length after ≡ marks_count)
  marked_charge true more then after = (rw (more, then, after) marked_written, ap length after ∙ length-set marks (mark_of l) 1 ∙ marks-room)
  marked_charge false more then after = (rw (more, then, after) m, ap length after ∙ marks-room)

  pub list_charge : (dear : Bool) {then : List ℕ} → then ≡ cond dear (overwrite (line_numbers * count) (numbers_of l) s) s
      → length then ≡ length s
  list_charge true then = ap length then ∙ overwrite_length (line_numbers * count) (numbers_of l) s room
  list_charge false then = ap length then

  pub count_charge : (dear : Bool) {more most : ℕ} → more ≡ cond dear (count + 1) count → count < most → more ≤ most
  count_charge true more below = omega (arith, more, below)
  count_charge false more below = omega (arith, more, below)
