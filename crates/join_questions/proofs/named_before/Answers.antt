-- The names before name j, from the first on.
use Prim.Native.Nat.{ℕ, zero, suc, ◌≤◌}
use native.Mathlib.Omega.{arith}
use mathlib.Core.Path.{◌≡◌, refl, sym, ap, ◌∙◌}
use mathlib.Core.Bool.{Bool, ◌||◌}
use mathlib.Core.List.{List}
use lib.ListN.{length, get_or, take}
use Rattle.std.specs.List.{list_any}
use Rattle.std.proofs.lemmas.List.Folds.{list_any_more}
use Rattle.std.proofs.Common.{add-one, nat_eq}
use Rattle.words.specs.Below.{any}
use Rattle.join_questions.proofs.named_before.Goals as goal

taken : (p : ℕ → Bool) (xs : List ℕ) (n : ℕ) → n ≤ length xs → list_any p (take n xs) ≡ any n (λ i. p (get_or xs i 0))
unfolding any
taken p xs zero h = refl
taken p xs (suc n) h = ap (λ (m : ℕ). list_any p (take m xs)) (sym (add-one n)) ∙ list_any_more p xs n 0 (omega arith) ∙ ap (λ (t : Bool). t || p (get_or xs n 0)) (taken p xs n (omega arith))

pub returns : goal.returns
returns c =
    let a = c.args in
    c.contains.ensures.value ∙ taken (λ y. nat_eq y (get_or a.names.now a.j 0)) a.names.now a.j (omega arith)
