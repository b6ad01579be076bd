-- A line's list has a last number, and it is 0.
use mathlib.Core.Path.{◌≡◌, refl, ap, ◌∙◌}
use mathlib.Core.Bool.{Bool, true, false}
use mathlib.Core.List.{List, [], ◌∷◌, ◌++◌}
use Prim.Native.Nat.{ℕ, zero, ◌+◌, ◌-◌, ◌≤◌, ◌<◌}
use native.Mathlib.Omega.{arith}
use lib.IntN.{ℤ, pos}
use lib.ListN.{length, get_or, length-append}
use lib.Seq.{get_or-append-add}
use Rattle.trail.specs.Kinds.{kind_of, uses_second}
use Rattle.trail.specs.Trail.{Trail, line_count, line_at}
use Rattle.trail.specs.WellFormed.{WellFormed}
use Rattle.cnf.specs.Formulas.{numbers}
use Rattle.clause_lists.specs.Kinds.{has_carries}
use Rattle.clause_lists.specs.Lists.{line_clauses, line_list}
use Rattle.clause_lists.specs.Sizes.{filled_bits, gates_as, size_of, clauses_of_gate}
use Rattle.clause_lists.specs.Pairing.{EndsInZero}
use Rattle.clause_lists.proofs.Lengths.{line_clauses_length}

ends_append : (ms ns : List ℤ) → EndsInZero ns → EndsInZero (ms ++ ns)
ends_append ms ns h = record {
  some = omega (arith, length-append ms ns, h.some);
  last =
      ap (λ (z : ℕ). get_or (ms ++ ns) z (pos 1)) whole
      ∙ get_or-append-add ms ns (length ns - 1) (pos 1)
      ∙ h.last;
}
  where
    whole : length (ms ++ ns) - 1 ≡ length ms + (length ns - 1)
    whole = omega (arith, length-append ms ns, h.some)

ends_numbers : (cs : List (List ℤ)) → 1 ≤ length cs → EndsInZero (numbers cs)
unfolding numbers
ends_numbers [] h = absurd (omega arith)
ends_numbers (c ∷ []) h = ends_append c (pos zero ∷ []) (record { some = omega arith; last = refl })
ends_numbers (c ∷ d ∷ cs) h =
    ends_append c (pos zero ∷ numbers (d ∷ cs))
    (ends_append (pos zero ∷ []) (numbers (d ∷ cs)) (ends_numbers (d ∷ cs) (omega arith)))

some_clauses : (second carries : Bool) (n filled : ℕ) → 2 ≤ n → 1 ≤ size_of clauses_of_gate (gates_as second carries n filled)
some_clauses true true n filled h = omega arith
some_clauses true false n filled h = omega arith
some_clauses false true n filled h = omega arith
some_clauses false false n filled h = omega arith

pub ends_in_zero : {t : Trail} → WellFormed t → (k : ℕ) → k < line_count t → EndsInZero (line_list t k)
unfolding line_list
ends_in_zero {t} good k h =
    ends_numbers (line_clauses t k)
    (rw (line_clauses_length good k h)
    (some_clauses (uses_second (kind_of (line_at t k).kind)) (has_carries (kind_of (line_at t k).kind)) t.width (filled_bits t.width (line_at t k)) good.width_least))
