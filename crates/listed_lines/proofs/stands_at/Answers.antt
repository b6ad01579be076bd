-- Two slices are equal where each number stands in its place.
use Prim.Native.Nat.{ℕ, ◌+◌, ◌-◌, ◌≤◌, ◌<◌}
use native.Mathlib.Omega.{arith}
use mathlib.Core.Path.{◌≡◌, refl, sym, ap, ◌∙◌}
use mathlib.Core.Bool.{Bool, true, false}
use mathlib.Core.List.{List}
use borrow.Author.Tests.{eqb-true, eq-eqb}
use lib.Dec.{eqb}
use lib.ListN.{length, take, drop, get_or, length-take, length-drop}
use lib.Seq.{get_or-take, get_or-drop, ext_get_or}
use Rattle.std.proofs.lemmas.Bool.Decides.{Decides-eqb}
use Rattle.std.proofs.lemmas.Slice.Eq.{slice_eq-Decides}
use Rattle.std.specs.Bool.{Decides}
use Rattle.words.proofs.Below.{all_true, all_yes_lem}
use Rattle.listed_lines.specs.Listed.{stands_at}
use Rattle.listed_lines.proofs.stands_at.Goals as goal

module _ (s : List ℕ) (at : ℕ) (numbers : List ℕ) (room : at + length numbers ≤ length s) where
  abbrev part : List ℕ
  part = take (length numbers) (drop at s)

  part_number : (j : ℕ) → j < length numbers → get_or part j 0 ≡ get_or s (at + j) 0
  part_number j h = get_or-take (length numbers) (drop at s) j 0 h ∙ get_or-drop at s j 0

  part_length : length part ≡ length numbers
  part_length = simp (length-take, length-drop) (omega arith)

  decided : (r : Bool) → Decides r (part ≡ numbers) → r ≡ stands_at s at numbers
  unfolding stands_at
  decided true d =
      let same = d.0 refl in
      sym (all_yes_lem (length numbers) _ (λ j h. eq-eqb _ _ (sym (part_number j h) ∙ ap (λ (l : List ℕ). get_or l j 0) same)))
  decided false d = at_all (stands_at s at numbers) refl
    where
      at_all : (b : Bool) → stands_at s at numbers ≡ b → false ≡ b
      at_all false e = refl
      at_all true e =
          let same : part ≡ numbers =
          ext_get_or 0 part numbers part_length (λ j h. let k : j < length numbers = omega (arith, part_length) in part_number j k ∙ eqb-true _ _ (all_true (length numbers) (λ j. eqb (get_or s (at + j) 0) (get_or numbers j 0)) e j k)) in
          d.1 same

pub returns : goal.returns
returns c =
    let a = c.args in
    let long = c.requires.0 in
    let e : a.at + 7 - a.at ≡ length a.numbers.now = omega arith in
    decided a.list.now a.at a.numbers.now (omega arith) c.eq.result (slice_eq-Decides Decides-eqb _ _ _ (rw e at c.eq.ensures))
