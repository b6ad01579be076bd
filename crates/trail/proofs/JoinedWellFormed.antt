-- A joined trail is well-formed.
use mathlib.Core.Path.{sym, ap, subst, ◌∙◌}
use mathlib.Core.Bool.{Bool, cond}
use mathlib.Core.List.{List}
use Prim.Native.Nat.{ℕ, ◌+◌, ◌<◌, ◌≤◌}
use native.Mathlib.Omega.{arith}
use Rattle.words.proofs.Below.{below_or_past}
use Rattle.trail.specs.declared.Line.{Line}
use Rattle.trail.specs.Trail.{Trail, input_count, line_count, line_at}
use Rattle.trail.specs.WellFormed.{WellFormedLine, WellFormed, most_lines, Sized}
use Rattle.trail.specs.Joining.{joined_word, joined_line, joined}
use Rattle.trail.proofs.KindTests.{distinct_second}
use Rattle.trail.proofs.JoinedNames.{Joinable}
use Rattle.trail.proofs.JoinedLines.{joined_count, line_first, line_second, word_earlier, word_once}

module _ {a b : Trail} {names : List ℕ} (can : Joinable a b names) where
  line_right : (k : ℕ) (l : Line) → WellFormedLine b.width (input_count b + k) l
      → WellFormedLine b.width (input_count a + (line_count a + k)) (joined_line a b names l)
  line_right k l w = record {
    kind_known = w.kind_known;
    first_earlier = word_earlier can k l.first w.first_earlier;
    second_earlier = λ used.
        subst (λ (t : Bool). cond t (joined_word a b names l.second) 0 < input_count a + (line_count a + k)) (sym used)
        (word_earlier can k l.second (w.second_earlier used));
    operands_differ = λ wanted e.
        w.operands_differ wanted
        (word_once can l.first l.second
        (e ∙ ap (λ (t : Bool). cond t (joined_word a b names l.second) 0) (distinct_second l.kind wanted)));
    amount_least = w.amount_least;
    amount_most = w.amount_most;
    constant_word = w.constant_word;
    difference_word = w.difference_word;
    second_unused = λ unused. ap (λ (t : Bool). cond t (joined_word a b names l.second) 0) unused;
    amount_unused = w.amount_unused;
    constant_unused = w.constant_unused;
  }

  pub joined_well_formed : WellFormed a → WellFormed b → WellFormed (joined a b names)
  joined_well_formed good_a good_b = record {
    width_least = good_a.width_least;
    inputs_least = good_a.inputs_least;
    lines_least = omega (arith, joined_count a b names, good_a.lines_least);
    inputs_words = good_a.inputs_words;
    lines_right = λ k h. right k (omega (arith, joined_count a b names));
  }
    where
      right : (k : ℕ) → k < line_count a + line_count b → WellFormedLine a.width (input_count a + k) (line_at (joined a b names) k)
      right =
          below_or_past (λ k. k < line_count a + line_count b → WellFormedLine a.width (input_count a + k) (line_at (joined a b names) k))
          (line_count a)
          (λ k l _. subst (WellFormedLine a.width (input_count a + k)) (sym (line_first a b names k l)) (good_a.lines_right k l))
          (λ k l.
          subst (WellFormedLine a.width (input_count a + (line_count a + k))) (sym (line_second a b names k (omega arith)))
          (subst (λ (n : ℕ). WellFormedLine n (input_count a + (line_count a + k)) (joined_line a b names (line_at b k))) (sym can.same_width)
          (line_right k (line_at b k) (good_b.lines_right k (omega arith)))))

-- with at most 248 lines together the joined trail is within the limits
pub joined_sized : (a b : Trail) (names : List ℕ) {most : ℕ} → Sized most a → line_count a + line_count b ≤ most_lines → Sized most (joined a b names)
joined_sized a b names sized few = record {
  width_most = sized.width_most;
  inputs_most = sized.inputs_most;
  lines_most = omega (arith, joined_count a b names);
}
